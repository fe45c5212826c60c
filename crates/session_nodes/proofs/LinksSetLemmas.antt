-- A node has got other links of the tree.
use Rattle.std.proofs.Common.{◌≡◌, ◌≢◌, ℕ, ◌+◌, ◌^◌, ◌<◌, ◌≤◌, List, [], ◌++◌, length, refl, sym, ap, ◌∙◌, append_assoc, length-append, arith}
use Rattle.std.proofs.lemmas.Bool.Decides.{nat_tests}
use Rattle.std.proofs.lemmas.List.{append-nil}
use Rattle.std.specs.Option.{unwrap_or}
use Rattle.avl_tree.specs.declared.node.Links.{Links}
use Rattle.avl_tree.specs.Tree.{is_at}
use Rattle.avl_tree.specs.View.{IsRelinked}
use Rattle.trade_base.specs.Word.{word_bytes}
use Rattle.trade_base.proofs.WordLemmas.{length-word_bytes}
use Rattle.region_map.specs.Regions.{Regions}
use Rattle.dataspace_core.specs.Store.{Store}
use Rattle.heap_core.specs.declared.heap.Heap.{Heap}
use Rattle.sliced_heap.specs.declared.heap.SlicedHeap.{SlicedHeap}
use Rattle.session_nodes.specs.Calls.{node_stored}
use Rattle.session_nodes.specs.SoundHeaps.{KeepsSession, Stock, stock}
use Rattle.session_nodes.specs.Index.{ChangesTree, IsNameNode, IsPadded, KeepsNames, links_at, names_in, name_plan}
use Rattle.session_nodes.specs.Node.{StoredNode, node_of, rank_of, word_from}
use Rattle.session_nodes.proofs.TailLemmas.{tail_node, tail_others, tail_padded, tails_stored, word_behind, word_put, OtherPayloadsStay}

-- the bytes of links
abbrev pub bytes_by : Links → List ℕ
bytes_by links = word_bytes links.left ++ (word_bytes links.right ++ word_bytes links.high)

long : (links : Links) → length (bytes_by links) ≡ 24
long links =
    length-append (word_bytes links.left) (word_bytes links.right ++ word_bytes links.high)
    ∙ omega (arith, length-append (word_bytes links.right) (word_bytes links.high), length-word_bytes links.left, length-word_bytes links.right, length-word_bytes links.high)

module _ (block : ℕ) (links : Links) (old new : Stock) where
  module _ (padded : IsPadded old.nodes block) (stored : new ≡ node_stored block 64 (bytes_by links) old) where
    fits : 64 + length (bytes_by links) ≤ 96
    fits = omega (arith, long links)

    pub tree_set : ChangesTree old new
    tree_set = record {
      tails = tails_stored old new block 64 (bytes_by links) (omega arith) fits padded.there stored;
      previous = λ b. word_behind old new block 64 (bytes_by links) (omega arith) fits padded.there stored b 88 (omega (arith, long links));
    }

module _ (block : ℕ) (links : Links) (store now : Store) (old new : Stock) (padded : IsPadded old.nodes block) (stored : new ≡ node_stored block 64 (bytes_by links) old)
    (left_low : links.left < 2 ^ 64) (right_low : links.right < 2 ^ 64) (high_low : links.high < 2 ^ 64) where
  tree : ChangesTree old new
  tree = tree_set block links old new padded stored

  room : 64 + length (bytes_by links) ≤ 96
  room = omega (arith, long links)

  others : OtherPayloadsStay block old new
  others b other = tail_others old new block 64 (bytes_by links) (omega arith) room padded.there stored b other

  -- a node apart is another one
  apart : (b : ℕ) → ((q : ℕ) → is_at q b 0 + is_at q block 0 ≤ 1) → b ≢ block
  apart b one same = let most = one block in grind (arith, nat_tests)

  set : links_at new.nodes block ≡ links
  set =
      let a = word_bytes links.left in
      let b = word_bytes links.right in
      let c = word_bytes links.high in
      let two : length (a ++ b) ≡ 16 = length-append a b ∙ omega (arith, length-word_bytes links.left, length-word_bytes links.right) in
      let left = word_put old new block 64 (bytes_by links) (omega arith) room padded.there stored [] (b ++ c) links.left 64 refl refl left_low in
      let right = word_put old new block 64 (bytes_by links) (omega arith) room padded.there stored a c links.right 72 refl (omega (arith, length-word_bytes links.left)) right_low in
      let high = word_put old new block 64 (bytes_by links) (omega arith) room padded.there stored (a ++ b) [] links.high 80 (ap (λ l. a ++ (b ++ l)) (sym (append-nil c)) ∙ sym (append_assoc a b (c ++ []))) (omega (arith, two)) high_low in
      λ i. record { left = left i; right = right i; high = high i }

  pub links_relinked : IsRelinked name_plan (names_in store old.nodes) (names_in now new.nodes) block links
  links_relinked = record {
    links = set;
    rank = ap (λ (n : StoredNode). rank_of n.name) (tail_node old.nodes new.nodes block (tree.tails.fronts block) padded.there);
    other_links = λ b one i. record {
      left = word_from (unwrap_or (others b (apart b one) i) []) 64;
      right = word_from (unwrap_or (others b (apart b one) i) []) 72;
      high = word_from (unwrap_or (others b (apart b one) i) []) 80;
    };
    other_ranks = λ b one. ap (λ o. rank_of (node_of (unwrap_or o [])).name) (others b (apart b one));
    rest = λ q none. absurd (omega (arith, none));
  }

pub links_set : (block : ℕ) (links : Links) (store now : Store) (old new : Stock) → IsPadded old.nodes block → new ≡ node_stored block 64 (bytes_by links) old →
    links.left < 2 ^ 64 → links.right < 2 ^ 64 → links.high < 2 ^ 64 → IsRelinked name_plan (names_in store old.nodes) (names_in now new.nodes) block links
links_set = links_relinked

pub names_kept : (heap : Heap) (sliced : SlicedHeap) (regions : Regions) (store now : Store) (block : ℕ) (links : Links) → IsNameNode heap sliced store regions block →
    KeepsSession sliced heap sliced store now regions regions → stock heap sliced now regions ≡ node_stored block 64 (bytes_by links) (stock heap sliced store regions) →
    KeepsNames heap sliced regions store now
names_kept heap sliced regions store now block links is keeps stored =
    let tree = tree_set block links (stock heap sliced store regions) (stock heap sliced now regions) is.padded stored in
    record {
      keeps = λ furnished. keeps;
      tree = tree;
      nodes = λ b node. record {
        furnished = keeps.stays.furnished;
        padded = tail_padded (stock heap sliced store regions).nodes (stock heap sliced now regions).nodes b (tree.tails.fronts b) node.padded;
      };
    }
