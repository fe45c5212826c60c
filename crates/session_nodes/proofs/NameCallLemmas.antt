-- Calls of the tree by name, as the tree's functions tell them.
use Rattle.std.proofs.Common.{◌≡◌, ℕ, ◌+◌, ◌*◌, ◌^◌, ◌<◌, ◌≤◌, true, List, length, refl, sym, ap, subst, ◌∙◌, arith}
use Rattle.avl_tree.specs.Tree.{found, high}
use Rattle.avl_tree.specs.View.{AreNodes, HasTree, IsNew, LacksNode, Stands}
use Rattle.avl_tree.proofs.OrderLemmas.{found-in}
use Rattle.avl_tree.proofs.ViewLemmas.{stands_same}
use Rattle.region_map.specs.Regions.{Regions}
use Rattle.dataspace_core.specs.Store.{Store}
use Rattle.own_model.specs.OwnHeap.{OwnHeap}
use Rattle.heap_core.specs.declared.heap.Heap.{Heap}
use Rattle.sliced_heap.specs.declared.heap.SlicedHeap.{SlicedHeap}
use Rattle.sliced_heap.specs.Chain.{is_listed}
use Rattle.session_nodes.specs.SoundHeaps.{HasSoundHeaps, Stock, stock}
use Rattle.session_nodes.specs.Index.{CanEnter, ChangesTree, IsNamed, IsNameNode, IsPadded, Seeks, names_in, names_of, name_plan}
use Rattle.session_nodes.specs.Node.{StoredNode}
use Rattle.session_nodes.proofs.IndexLemmas.{KeepsNodes, enter_new, in_tree, name_found, named_nodes, tree_low}
use Rattle.session_nodes.proofs.TailLemmas.{tail_node, tail_padded}

-- a tree of files stands in a memory
pub named_stands : {Rest : Type 0} (rest : Rest) (root : ℕ) (nodes : OwnHeap) (blocks : List ℕ) (n : IsNamed root nodes blocks) → Stands name_plan (names_in rest nodes) n.tree root
named_stands rest root nodes blocks n = stands_same name_plan (names_of nodes) (names_in rest nodes) n.tree root (λ a there. (refl, refl)) n.stands

module _ (heap : Heap) (sliced : SlicedHeap) (store : Store) (regions : Regions) (furnished : HasSoundHeaps heap sliced store regions) where
  abbrev nodes : OwnHeap
  nodes = (stock heap sliced store regions).nodes

  name_nodes : (root : ℕ) (blocks : List ℕ) (n : IsNamed root nodes blocks) → AreNodes (IsNameNode heap sliced store regions) n.tree
  name_nodes root blocks n b there = record { furnished = furnished; padded = named_nodes n b there }

  -- what a search and a removal ask
  pub has_tree : (root : ℕ) (blocks : List ℕ) → IsNamed root nodes blocks → HasTree (IsNameNode heap sliced store regions) name_plan (names_in store nodes) root
  has_tree root blocks n = (n.tree, named_stands store root nodes blocks n, name_nodes root blocks n)

  pub enters_new : (root block rank : ℕ) (blocks : List ℕ) (c : CanEnter root blocks block rank nodes) → IsNew name_plan (names_in store nodes) c.named.tree block rank
  enters_new root block rank blocks c = enter_new root block rank 0 nodes nodes blocks store store c

  -- what an insertion asks
  pub lacks_node : (root block rank : ℕ) (blocks : List ℕ) → CanEnter root blocks block rank nodes → LacksNode (IsNameNode heap sliced store regions) name_plan (names_in store nodes) root block rank
  lacks_node root block rank blocks c =
      (c.named.tree, named_stands store root nodes blocks c.named, enter_new root block rank 0 nodes nodes blocks store store c, name_nodes root blocks c.named, record { furnished = furnished; padded = c.padded })

-- what a search finds is what is sought
pub seeks_found : (root rank : ℕ) (nodes : OwnHeap) (result : ℕ) → ((blocks : List ℕ) (n : IsNamed root nodes blocks) → result ≡ found rank n.tree) → Seeks root rank nodes result
seeks_found root rank nodes result is = record {
  there = λ blocks b n listed some ranked. is blocks n ∙ name_found n b rank listed some ranked;
  listed = λ blocks n some.
      let at = is blocks n in
      let inside = found-in rank n.tree (omega (arith, some, at)) in
      subst (λ x. is_listed blocks x ≡ true) (sym at) (in_tree n (found rank n.tree) inside);
}

-- a call keeps nodes
pub keeps_nodes : (old new : Stock) → ChangesTree old new → (b : ℕ) → IsPadded old.nodes b → KeepsNodes old.nodes new.nodes b
keeps_nodes old new tree b padded = record {
  name = ap (λ (n : StoredNode). n.name) (tail_node old.nodes new.nodes b (tree.tails.fronts b) padded.there);
  padded = λ is. tail_padded old.nodes new.nodes b (tree.tails.fronts b) is;
}

-- so many loads a level
pub loads_low : (root : ℕ) (nodes : OwnHeap) (blocks : List ℕ) (n : IsNamed root nodes blocks) (k old new : ℕ) → length blocks < 2 ^ k → new ≤ old + 6 * high n.tree → new ≤ old + 6 * (2 * k + 1)
loads_low root nodes blocks n k old new few loads = let low = tree_low n k few in omega (arith, loads, low)

pub loads_more : (root : ℕ) (nodes : OwnHeap) (blocks : List ℕ) (n : IsNamed root nodes blocks) (k old new : ℕ) → length blocks < 2 ^ k → new ≤ old + 10 * (6 * high n.tree) → new ≤ old + 60 * (2 * k + 1)
loads_more root nodes blocks n k old new few loads = let low = tree_low n k few in omega (arith, loads, low)
