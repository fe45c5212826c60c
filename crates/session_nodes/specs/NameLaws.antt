-- What calls of the tree keep of a memory, one after the other.
use Rattle.std.proofs.Common.{refl, ap, ◌∙◌}
use Rattle.std.specs.FinMap.{get}
use Rattle.own_model.specs.NatMap.{NatMap}
use Rattle.own_model.specs.Region.{Region}
use Rattle.region_map.specs.Regions.{Regions}
use Rattle.dataspace_core.specs.Store.{Store}
use Rattle.heap_core.specs.declared.heap.Heap.{Heap}
use Rattle.sliced_heap.specs.declared.heap.SlicedHeap.{SlicedHeap}
use Rattle.session_nodes.specs.SoundHeaps.{Stock, stock}
use Rattle.session_nodes.specs.Index.{ChangesTails, ChangesTree, KeepsNames}

pub tails_then : (old between new : Stock) → ChangesTails old between → ChangesTails between new → ChangesTails old new
tails_then old between new first second = record {
  rest = second.rest ∙ ap (λ (s : Stock). record s { nodes = record s.nodes { payloads = new.nodes.payloads } }) first.rest;
  fronts = λ b. let one = first.fronts b in let two = second.fronts b in
      record { there = two.there ∙ one.there; long = two.long ∙ one.long; front = two.front ∙ one.front; user = two.user ∙ one.user };
}

pub tree_then : (old between new : Stock) → ChangesTree old between → ChangesTree between new → ChangesTree old new
tree_then old between new first second = record {
  tails = tails_then old between new first.tails second.tails;
  previous = λ b. second.previous b ∙ first.previous b;
}

pub tree_same : (old : Stock) → ChangesTree old old
tree_same old = record {
  tails = record { rest = refl; fronts = λ b. record { there = refl; long = refl; front = refl; user = refl } };
  previous = λ b. refl;
}

pub names_same : (heap : Heap) (sliced : SlicedHeap) (regions : Regions) (store : Store) → KeepsNames heap sliced regions store store
names_same heap sliced regions store = record {
  keeps = λ furnished. record {
    stays = record {
      furnished = furnished;
      payer = refl;
      others = record { shares = λ other apart. refl; root = refl; parents = refl; room = refl; rest = refl };
    };
    lent = record { stands = refl; bytes = λ s r at. refl };
  };
  tree = tree_same (stock heap sliced store regions);
  nodes = λ b is. is;
}

pub names_then : (heap : Heap) (sliced : SlicedHeap) (regions : Regions) (old between new : Store) → KeepsNames heap sliced regions old between → KeepsNames heap sliced regions between new →
    KeepsNames heap sliced regions old new
names_then heap sliced regions old between new first second = record {
  keeps = λ furnished. let one = first.keeps furnished in let two = second.keeps one.stays.furnished in record {
    stays = record {
      furnished = two.stays.furnished;
      payer = refl;
      others = record {
        shares = λ other apart. two.stays.others.shares other apart ∙ one.stays.others.shares other apart;
        root = two.stays.others.root ∙ one.stays.others.root;
        parents = two.stays.others.parents ∙ one.stays.others.parents;
        room = two.stays.others.room ∙ one.stays.others.room;
        rest = refl;
      };
    };
    lent = record {
      stands = two.lent.stands ∙ one.lent.stands;
      bytes = λ s r at. two.lent.bytes s r (ap (λ (m : NatMap Region). get m s) one.lent.stands ∙ at) ∙ one.lent.bytes s r at;
    };
  };
  tree = tree_then (stock heap sliced old regions) (stock heap sliced between regions) (stock heap sliced new regions) first.tree second.tree;
  nodes = λ b is. second.nodes b (first.nodes b is);
}
