-- Nodes stay nodes: where one is added with a block of its own, and where one is removed with its block.
use Rattle.std.proofs.Common.{rules, ◌≡◌, ℕ, ◌++◌, ◌==◌, ◌&&◌, ◌≤◌, Bool, true, false, cond, List, [], ◌∷◌, Some, refl, sym, ap, subst, ◌∙◌, find, eqb-true, true≢false, arith}
use Rattle.std.proofs.lemmas.Bool.{and_parts, false_from_ne_true}
use Rattle.std.proofs.lemmas.Bool.Decides.{nat_tests}
use Rattle.std.proofs.lemmas.List.Folds.{find-append}
use Rattle.std.proofs.lemmas.Option.{none-some, same_Some}
use Rattle.std.proofs.lemmas.Slice.Eq.{bytes_eq-Decides}
use Rattle.std.specs.Prelude.{Option, None, IsSome, is_some}
use Rattle.std.specs.Str.{bytes_eq}
use Rattle.std.specs.List.{AllByRecursion}
use Rattle.std.specs.Option.{option_or}
use Rattle.own_model.proofs.HeapBestFitLemmas.{IsHoleOf}
use Rattle.own_model.proofs.ListLemmas.{all_append, all_then}
use Rattle.own_model.proofs.NodeListLemmas.{found_holds, none_passes, all_without, none_without, finds_without}
use Rattle.own_model.proofs.NodeShapeLemmas.{used, block_by, used_taken, not_used, taken_fits, shape_taken_is, best_is, shape_grown_is, new_hole_is, new_hole_fits, used_grown, used_given, shape_given_is}
use Rattle.own_model.specs.Account.{Account}
use Rattle.own_model.specs.BestFit.{Spot, block_size}
use Rattle.own_model.specs.Growth.{Shape, Growth, growth_of, growth_refusal, small_refusal, hole_for, new_hole, shape_taken, shape_given, shape_grown, no_chunks}
use Rattle.own_model.specs.HeapStep.{size_taken}
use Rattle.own_model.specs.Nodes.{Node, BlockTaken, AreNodesOf, AreUnlike, HasBlock, IsShape, has_name, is_at, without_first, block_taken}
use Rattle.own_model.specs.Text.{is_name}

-- names that differ one way differ the other
pub differ_back : (a b : List ℕ) → bytes_eq a b ≡ false → bytes_eq b a ≡ false
differ_back a b differ = false_from_ne_true (bytes_eq b a) (λ same. true≢false (sym ((bytes_eq-Decides a b).1 (sym ((bytes_eq-Decides b a).0 same))) ∙ differ))

-- a place is itself
at_itself : (c o : ℕ) → (c == c && o == o) ≡ true
at_itself c o = grind (arith, nat_tests)

-- what is used where it wasn't is the new node's, and else another's
either : (b : Bool) (size : ℕ) (new : Node) (block : Option ℕ) (o : Option Node) → IsSome (cond b (Some size) block) → (IsSome block → IsSome o) → IsSome (option_or o (cond b (Some new) None))
either b size new block (Some x) some before = refl
either true size new block None some before = refl
either false size new block None some before = before some

-- nodes stay unlike where one comes that none before is like
unlike_push : (like : Node → Node → Bool) (nodes : List Node) (new : Node) → AllByRecursion (λ node. like node new ≡ false) nodes → AreUnlike like nodes → AreUnlike like (nodes ++ new ∷ [])
unlike_push like [] new none each = (refl, tt)
unlike_push like (x ∷ rest) new none each = grind (arith, nat_tests, find-append, unlike_push like rest new none.1 each.1)

-- and where one is removed
unlike_without : (like : Node → Node → Bool) (test : Node → Bool) (nodes : List Node) → AreUnlike like nodes → AreUnlike like (without_first test nodes)
unlike_without like test [] each = each
unlike_without like test (x ∷ rest) each = grind (arith, nat_tests, none_without, unlike_without like test rest each.1)

-- ---- a node more

module _ (name : List ℕ) (n : ℕ) (hole : Spot) (shape : Shape) (nodes : List Node) (h : AreNodesOf shape nodes) (name_is : is_name name ≡ true)
    (free : find (has_name name) nodes ≡ None) (is : IsHoleOf shape.chunks hole) (enough : block_size n ≤ hole.size) where
  -- the node
  abbrev new : Node
  new = record { name = name; asked = n; chunk = hole.chunk; offset = hole.offset }

  abbrev after : Shape
  after = shape_taken n hole shape

  -- what is used after it
  used_after : (chunk offset : ℕ) → used after chunk offset ≡ cond (hole.chunk == chunk && hole.offset == offset) (Some (size_taken (block_size n) hole.size)) (used shape chunk offset)
  used_after = used_taken n shape h.heap hole is enough

  -- the nodes that were there are elsewhere
  elsewhere : (node : Node) → HasBlock shape node → is_at node.chunk node.offset new ≡ false
  elsewhere node has = search (rules, false_from_ne_true, and_parts, used, eqb-true, not_used, none-some)

  -- and keep their blocks
  old_node : (node : Node) → HasBlock shape node → HasBlock after node
  old_node node has = block_by shape after node (hole.chunk == node.chunk && hole.offset == node.offset) (Some (size_taken (block_size n) hole.size)) (elsewhere node has) (used_after node.chunk node.offset) has

  -- the new node's own block
  new_node : HasBlock after new
  new_node = record {
    size = size_taken (block_size n) hole.size;
    there = used_after hole.chunk hole.offset ∙ ap (λ b. cond b (Some (size_taken (block_size n) hole.size)) (used shape hole.chunk hole.offset)) (at_itself hole.chunk hole.offset);
    fits = taken_fits n shape h.heap hole is enough;
  }

  -- what is used is a node's
  whose : (chunk offset : ℕ) → IsSome (used after chunk offset) → IsSome (find (is_at chunk offset) (nodes ++ new ∷ []))
  whose chunk offset some =
      let found = find-append (is_at chunk offset) nodes (new ∷ []) in
      let some' : IsSome (cond (is_at chunk offset new) (Some (size_taken (block_size n) hole.size)) (used shape chunk offset)) = ap is_some (sym (used_after chunk offset)) ∙ some in
      ap is_some found
      ∙ either (is_at chunk offset new) (size_taken (block_size n) hole.size) new (used shape chunk offset) (find (is_at chunk offset) nodes) some' (h.no_more chunk offset)

  nodes_pushed : AreNodesOf after (nodes ++ new ∷ [])
  nodes_pushed = record {
    names = all_append (λ node. is_name node.name ≡ true) nodes (new ∷ []) h.names (name_is, tt);
    differ = unlike_push (λ node. has_name node.name) nodes new (all_then (λ node. has_name name node ≡ false) (λ node. has_name node.name new ≡ false) nodes (λ node. differ_back node.name name) (none_passes (has_name name) nodes free)) h.differ;
    heap = shape_taken_is n shape h.heap hole is enough;
    blocks = all_append (HasBlock after) nodes (new ∷ []) (all_then (HasBlock shape) (HasBlock after) nodes old_node h.blocks) (new_node, tt);
    apart = unlike_push (λ node. is_at node.chunk node.offset) nodes new (all_then (HasBlock shape) (λ node. is_at node.chunk node.offset new ≡ false) nodes elsewhere h.blocks) h.apart;
    no_more = whose;
  }

-- ---- a chunk more

nodes_grown : (growth : Growth) (shape : Shape) (nodes : List Node) → IsShape (shape_grown growth shape) → AreNodesOf shape nodes → AreNodesOf (shape_grown growth shape) nodes
nodes_grown growth shape nodes heap h = search (rules, all_then, used_grown)

-- ---- a block taken, in the best hole or in a new chunk

module _ (name : List ℕ) (n : ℕ) (shape : Shape) (account : Account) (nodes : List Node) (h : AreNodesOf shape nodes) (name_is : is_name name ≡ true) (free : find (has_name name) nodes ≡ None) where
  -- the nodes with a new one in the block that is taken
  abbrev With : BlockTaken → Type 0
  With taken = AreNodesOf taken.shape (nodes ++ record { name = name; asked = n; chunk = taken.spot.chunk; offset = taken.spot.offset } ∷ [])

  pub nodes_in_hole : (hole : Spot) → hole_for n shape ≡ Some hole → With (block_taken n (Some hole) shape account)
  nodes_in_hole hole best = let is = best_is n shape hole h.heap best in nodes_pushed name n hole shape nodes h name_is free is.0 is.1

  pub nodes_in_chunk : growth_refusal n shape account ≡ None → With (block_taken n None shape account)
  nodes_in_chunk accepted =
      let growth = growth_of n shape account in
      let more = nodes_grown growth shape nodes (shape_grown_is n shape h.heap account accepted) h in
      nodes_pushed name n (new_hole growth shape) (shape_grown growth shape) nodes more name_is free (new_hole_is n shape h.heap account accepted) (new_hole_fits n shape h.heap account accepted)

  pub nodes_taken : (found : Option Spot) → hole_for n shape ≡ found → small_refusal n found shape account ≡ None → With (block_taken n found shape account)
  nodes_taken (Some hole) best accepted = nodes_in_hole hole best
  nodes_taken None none accepted = nodes_in_chunk accepted

-- ---- a node removed

module _ (gone : Node) (shape : Shape) (nodes : List Node) (h : AreNodesOf shape nodes) (there : find (has_name gone.name) nodes ≡ Some gone) where
  -- its block
  its_block : HasBlock shape gone
  its_block = found_holds (has_name gone.name) (HasBlock shape) nodes gone h.blocks there

  abbrev left : Shape
  left = shape_given gone.chunk gone.offset shape

  -- what is used after it
  used_left : (chunk offset : ℕ) → used left chunk offset ≡ cond (gone.chunk == chunk && gone.offset == offset) None (used shape chunk offset)
  used_left = used_given shape h.heap gone its_block

  -- a node that is elsewhere keeps its block
  keeps_block : (x : Node) → is_at x.chunk x.offset gone ≡ false → HasBlock shape x → HasBlock left x
  keeps_block x apart has = block_by shape left x (gone.chunk == x.chunk && gone.offset == x.offset) None apart (used_left x.chunk x.offset) has

  -- places that differ one way differ the other
  place_back : (x y : Node) → is_at x.chunk x.offset y ≡ false → is_at y.chunk y.offset x ≡ false
  place_back x y apart = search (rules, false_from_ne_true, and_parts, eqb-true, true≢false)

  -- nodes that are elsewhere keep their blocks
  all_keep : (xs : List Node) → AllByRecursion (λ y. is_at gone.chunk gone.offset y ≡ false) xs → AllByRecursion (HasBlock shape) xs → AllByRecursion (HasBlock left) xs
  all_keep [] apart blocks = tt
  all_keep (y ∷ ys) apart blocks = (keeps_block y (place_back gone y apart.0) blocks.0, all_keep ys apart.1 blocks.1)

  -- so does each other node
  blocks_left : (xs : List Node) → find (has_name gone.name) xs ≡ Some gone → AreUnlike (λ x. is_at x.chunk x.offset) xs → AllByRecursion (HasBlock shape) xs →
      AllByRecursion (HasBlock left) (without_first (has_name gone.name) xs)
  blocks_left [] found apart blocks = tt
  blocks_left (x ∷ rest) found apart blocks =
      elim (has_name gone.name x) as (λ b. cond b (Some x) (find (has_name gone.name) rest) ≡ Some gone → AllByRecursion (HasBlock left) (cond b rest (x ∷ without_first (has_name gone.name) rest))) [
        | true ↦ λ here.
            let same : find (is_at gone.chunk gone.offset) rest ≡ None = subst (λ y. find (is_at y.chunk y.offset) rest ≡ None) (same_Some x gone here) apart.0 in
            all_keep rest (none_passes (is_at gone.chunk gone.offset) rest same) blocks.1
        | false ↦ λ later.
            let here : is_at x.chunk x.offset gone ≡ false = found_holds (has_name gone.name) (λ y. is_at x.chunk x.offset y ≡ false) rest gone (none_passes (is_at x.chunk x.offset) rest apart.0) later in
            (keeps_block x here blocks.0, blocks_left rest later apart.1 blocks.1)
      ] found

  -- what is used is that of a node that is left
  whose_left : (chunk offset : ℕ) → IsSome (used left chunk offset) → IsSome (find (is_at chunk offset) (without_first (has_name gone.name) nodes))
  whose_left chunk offset some =
      let some' : IsSome (cond (is_at chunk offset gone) None (used shape chunk offset)) = ap is_some (sym (used_left chunk offset)) ∙ some in
      elim (is_at chunk offset gone) as (λ b. is_at chunk offset gone ≡ b → IsSome (cond b None (used shape chunk offset)) → IsSome (find (is_at chunk offset) (without_first (has_name gone.name) nodes))) [
        | true ↦ λ _ none. absurd (true≢false (sym none))
        | false ↦ λ apart was. finds_without (has_name gone.name) (is_at chunk offset) nodes gone there apart (h.no_more chunk offset was)
      ] refl some'

  pub nodes_removed : AreNodesOf left (without_first (has_name gone.name) nodes)
  nodes_removed = record {
    names = all_without (has_name gone.name) (λ node. is_name node.name ≡ true) nodes h.names;
    differ = unlike_without (λ node. has_name node.name) (has_name gone.name) nodes h.differ;
    heap = shape_given_is shape h.heap gone its_block;
    blocks = blocks_left nodes there h.apart h.blocks;
    apart = unlike_without (λ node. is_at node.chunk node.offset) (has_name gone.name) nodes h.apart;
    no_more = whose_left;
  }

-- no nodes are nodes, of a heap before it grows
pub no_nodes_are : AreNodesOf no_chunks []
no_nodes_are = search (rules, true≢false)
