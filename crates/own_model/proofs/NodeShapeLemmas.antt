-- The heap of nodes: which blocks are used after one is taken or given back, and that it stays one.
use Rattle.std.proofs.Common.{rules, ◌≡◌, ℕ, ◌-◌, ◌<◌, ◌≤◌, ◌++◌, ◌==◌, ◌&&◌, Bool, true, false, cond, eqb, List, [], ◌∷◌, length, Some, refl, sym, ap, subst, ◌∙◌, arith, set, nat_lt, true≢false, eqb-true, inl, inr, length-append, length-set}
use Rattle.std.proofs.Math.Seq.{get_or-append_seam}
use Rattle.std.proofs.lemmas.Bool.{eqb-false, cases_eq, cases_lt}
use Rattle.std.proofs.lemmas.Bool.Decides.{nat_tests}
use Rattle.std.proofs.lemmas.List.{get_or-set_same, get_or-set_other, get_or_append_left, get_or_past}
use Rattle.std.proofs.lemmas.Option.{none-some}
use Rattle.std.specs.Prelude.{Option, None}
use Rattle.own_model.proofs.HeapBestFitLemmas.{IsHoleOf, best_is_hole, hole_unused}
use Rattle.own_model.proofs.HeapBlockLemmas.{hole_at, used-taken, used-given, bytes-taken, bytes-given, AreBlocks-taken, AreBlocks-given, block_size-fits}
use Rattle.own_model.proofs.ListLemmas.{all_within, all_set, all_append, all_then}
use Rattle.own_model.proofs.StepLemmas.{accepted_growth, growth_fits}
use Rattle.own_model.specs.Account.{Account}
use Rattle.own_model.specs.BestFit.{Spot, block_size, chunk_of, taken_in, used_at}
use Rattle.own_model.specs.Growth.{Shape, Growth, hole_for, shape_taken, shape_given, shape_grown, new_hole, growth_of, growth_refusal}
use Rattle.own_model.specs.Heap.{Heap, Block, Hole, AreBlocks, ArePages, IsChunk, bytes_in}
use Rattle.own_model.specs.HeapStep.{size_taken}
use Rattle.own_model.specs.Nodes.{Node, HasBlock, IsShape}

-- the used block at a place
abbrev pub used : Shape → ℕ → ℕ → Option ℕ
used shape chunk offset = used_at offset (chunk_of shape.chunks chunk)

-- where one chunk has other blocks
used_set : (chunks : Heap) (i : ℕ) (blocks : List Block) (chunk offset : ℕ) → i < length chunks →
    used_at offset (chunk_of (set chunks i blocks) chunk) ≡ cond (i == chunk) (used_at offset blocks) (used_at offset (chunk_of chunks chunk))
used_set chunks i blocks chunk offset within =
    elim (i == chunk) as (λ b. (i == chunk) ≡ b → used_at offset (chunk_of (set chunks i blocks) chunk) ≡ cond b (used_at offset blocks) (used_at offset (chunk_of chunks chunk))) [
      | true ↦ λ e. subst (λ k. used_at offset (chunk_of (set chunks i blocks) k) ≡ used_at offset blocks) (eqb-true i chunk e) (ap (used_at offset) (get_or-set_same chunks i blocks [] within))
      | false ↦ λ e. ap (used_at offset) (get_or-set_other chunks i chunk blocks [] (λ same. eqb-false i chunk e (sym same)))
    ] refl

-- one chunk in which one place has changed
place_set : (chunks : Heap) (i at : ℕ) (blocks : List Block) (o : Option ℕ) → i < length chunks →
    ((offset : ℕ) → used_at offset blocks ≡ cond (eqb offset at) o (used_at offset (chunk_of chunks i))) → (chunk offset : ℕ) →
    used_at offset (chunk_of (set chunks i blocks) chunk) ≡ cond (i == chunk && at == offset) o (used_at offset (chunk_of chunks chunk))
place_set chunks i at blocks o within changed chunk offset = search (rules, eqb-true)

-- a node whose place isn't taken keeps its block
pub block_by : (shape after : Shape) (node : Node) (b : Bool) (o : Option ℕ) → b ≡ false → used after node.chunk node.offset ≡ cond b o (used shape node.chunk node.offset) →
    HasBlock shape node → HasBlock after node
block_by shape after node true o apart is h = absurd (true≢false apart)
block_by shape after node false o apart is h = record { size = h.size; there = is ∙ h.there; fits = h.fits }

-- ---- a block in a hole

module _ (n : ℕ) (shape : Shape) (h : IsShape shape) (hole : Spot) (is : IsHoleOf shape.chunks hole) (enough : block_size n ≤ hole.size) where
  -- the chunk of the hole
  chunk : IsChunk (chunk_of shape.chunks hole.chunk)
  chunk = all_within IsChunk shape.chunks hole.chunk [] h.chunks is.within

  -- the block is used, and all that were
  pub used_taken : (number offset : ℕ) → used (shape_taken n hole shape) number offset
      ≡ cond (hole.chunk == number && hole.offset == offset) (Some (size_taken (block_size n) hole.size)) (used shape number offset)
  used_taken = search (rules, place_set, chunk, used-taken)

  -- it wasn't
  pub not_used : used shape hole.chunk hole.offset ≡ None
  not_used = hole_unused hole.offset hole.size (chunk_of shape.chunks hole.chunk) chunk.sizes is.there

  -- it is large enough
  pub taken_fits : block_size n ≤ size_taken (block_size n) hole.size
  taken_fits = elim (nat_lt (hole.size - block_size n) 48) as (λ b. block_size n ≤ cond b hole.size (block_size n)) [ true ↦ enough | false ↦ omega arith ]

  -- and the heap stays one
  pub shape_taken_is : IsShape (shape_taken n hole shape)
  shape_taken_is =
      let blocks = chunk_of shape.chunks hole.chunk in
      let after = taken_in (block_size n) hole.offset blocks in
      let as_many : bytes_in after ≡ bytes_in blocks = bytes-taken (block_size n) hole.offset blocks in
      record {
        chunks = all_set IsChunk shape.chunks hole.chunk after h.chunks (record {
          sizes = AreBlocks-taken (block_size n) hole.size hole.offset blocks chunk.sizes is.there (block_size-fits n) enough;
          pages = subst ArePages (sym as_many) chunk.pages;
        });
        few = omega (arith, h.few, length-set shape.chunks hole.chunk after);
        growth_some = h.growth_some;
        growth_most = h.growth_most;
      }

-- the best hole is one, and large enough
pub best_is : (n : ℕ) (shape : Shape) (hole : Spot) → IsShape shape → hole_for n shape ≡ Some hole → IsHoleOf shape.chunks hole × (block_size n ≤ hole.size)
best_is n shape hole h best = best_is_hole (block_size n) shape.chunks hole (all_then IsChunk AreBlocks shape.chunks (λ blocks one. one.sizes) h.chunks) best

-- ---- a chunk more

module _ (n : ℕ) (shape : Shape) (h : IsShape shape) (account : Account) (accepted : growth_refusal n shape account ≡ None) where
  abbrev growth : Growth
  growth = growth_of n shape account

  -- it fills pages, the block fits in it, and the growth number stays within its bounds
  record Suits (g : Growth) : Type 0 where
    pages : ArePages g.bytes
    fits : block_size n ≤ g.bytes
    next_some : 1 ≤ g.next
    next_most : g.next ≤ 64

  suits : Suits growth
  suits = grind (arith, nat_tests, growth_fits)

  -- the heap that has grown is one, and its last chunk is a hole in which the block fits
  pub shape_grown_is : IsShape (shape_grown growth shape)
  shape_grown_is = grind (arith, nat_tests, accepted_growth, suits, all_append, length-append)

  pub new_hole_is : IsHoleOf (shape_grown growth shape).chunks (new_hole growth shape)
  new_hole_is = search (rules, length-append, hole_at, get_or-append_seam)

  pub new_hole_fits : block_size n ≤ growth.bytes
  new_hole_fits = suits.fits

-- nothing in a new chunk is used
pub used_grown : (shape : Shape) (growth : Growth) (number offset : ℕ) → used (shape_grown growth shape) number offset ≡ used shape number offset
used_grown shape growth number offset =
    let new : List Block = Hole growth.bytes ∷ [] in
    let nothing : used_at offset new ≡ None = elim (nat_lt offset growth.bytes) as (λ b. cond b None (used_at (offset - growth.bytes) []) ≡ None) [ true ↦ refl | false ↦ refl ] in
    elim (cases_lt number (length shape.chunks)) [
      | inl within ↦ ap (used_at offset) (get_or_append_left shape.chunks (new ∷ []) [] number within)
      | inr past ↦ elim (cases_eq number (length shape.chunks)) [
        | inl last ↦
            ap (used_at offset) (ap (chunk_of (shape.chunks ++ new ∷ [])) last ∙ get_or-append_seam shape.chunks new [] []) ∙ nothing
            ∙ sym (ap (used_at offset) (get_or_past shape.chunks number [] past))
        | inr beyond ↦
            ap (used_at offset) (get_or_past (shape.chunks ++ new ∷ []) number [] (omega (arith, past, beyond, length-append shape.chunks (new ∷ []))))
            ∙ sym (ap (used_at offset) (get_or_past shape.chunks number [] past))
      ]
    ]

-- ---- a block given back

module _ (shape : Shape) (h : IsShape shape) (node : Node) (has : HasBlock shape node) where
  -- a chunk that has a used block is there
  within : node.chunk < length shape.chunks
  within = search (rules, cases_lt, chunk, none-some, get_or_past)

  node_chunk : IsChunk (chunk_of shape.chunks node.chunk)
  node_chunk = all_within IsChunk shape.chunks node.chunk [] h.chunks within

  -- the block isn't used, and all others are that were
  pub used_given : (number offset : ℕ) → used (shape_given node.chunk node.offset shape) number offset ≡ cond (node.chunk == number && node.offset == offset) None (used shape number offset)
  used_given = search (rules, place_set, chunk, within, used-given, node_chunk)

  -- and the heap stays one
  pub shape_given_is : IsShape (shape_given node.chunk node.offset shape)
  shape_given_is = grind (arith, nat_tests, chunk, bytes-given, all_set, AreBlocks-given, node_chunk, length-set)
