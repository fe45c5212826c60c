-- The calls of a heap: what is found, and what a change in one place leaves.
use Rattle.std.proofs.Common.{◌≡◌, ◌≢◌, ℕ, ◌+◌, ◌-◌, ◌*◌, ◌/◌, ◌%◌, ◌^◌, ◌<◌, ◌≤◌, refl, sym, ap, ◌∙◌, subst, arith, List, [], ◌∷◌, ◌++◌, length, take, inl, inr, Option, Some, None}
use Rattle.std.specs.Prelude.{slice_index, slice_set}
use Rattle.std.proofs.lemmas.Bool.{cases_lt}
use Rattle.std.proofs.lemmas.List.{length-set, length-take-le, get_or_past, take_more_set}
use Rattle.std.proofs.Math.ListN.{get_or-append}
use Rattle.std.specs.Option.{option_map}
use Rattle.std.specs.List.{AllByRecursion}
use Rattle.own_model.specs.Heap.{Block, Used, Hole, bytes_in, IsBlockSize, AreBlocks, Heap}
use Rattle.own_model.specs.BestFit.{Spot, holes_of, best_hole, block_size, cut, taken, taken_at, taken_in, chunk_of, binary_digits}
use Rattle.avl_alloc.specs.declared.best_fit.BestFit.{BestFit}
use Rattle.avl_alloc.specs.Words.{Words, place_at, with_word, within, IsNode}
use Rattle.avl_tree.specs.Tree.{Tree, high, found}
use Rattle.avl_tree.specs.View.{AreNodes}
use Rattle.avl_alloc.specs.FreeBlocks.{Fits, key, by_key, heads, links}
use Rattle.avl_alloc.specs.Fit.{IsPlaceOf}
use Rattle.avl_alloc.specs.Found.{block_addr}
use Rattle.avl_alloc.specs.Layout.{Laid, heap_of, sizes_of, bytes_of, hole_count, weigh_all, none, whole, IsChunk, AreChunks, IsLaidOut, IsSound, ChangesHoles}
use Rattle.avl_alloc.specs.Context.{Context, heap_with, start_of, Stand, StandUsed, Turn}
use Rattle.avl_tree.proofs.TreeLemmas.{one, high_bound}
use Rattle.avl_alloc.proofs.WeightLemmas.{IsLong, AreLong, TidyAll, tidy_all, chunks_kept, chunks_long, chunks_apart, weigh_all-append, weigh_all-parts, weigh-site}
use Rattle.avl_alloc.proofs.HoleLemmas.{header_leaves, within_above, with_word_same, with_word_other, fits_node, holds_kept, none_at_zero}
use Rattle.avl_alloc.proofs.TurnLemmas.{outside}
use Rattle.avl_alloc.proofs.FitLemmas.{found-best, holes_counted}
use Rattle.avl_alloc.proofs.LayoutLemmas.{fits_one_more, heap_is, IsTold, laid_sound}
use Rattle.avl_alloc.proofs.ContextLemmas.{chunks_length, sizes_few, site_open}
use Rattle.avl_alloc.proofs.TakenLemmas.{below_digits, IsSpotOf, IfFound, best_spot, short_from, taken_is, taken_blocks}
use Rattle.own_model.proofs.ListLemmas.{all_append, all_left, all_right}

-- ---- a change in one place

module _ (old new : BestFit) (w v : Words) (at : Context) (place : ℕ) (xs ys : List Block) (turn : Turn old new w v at place xs ys) where
  pub turn_heap : heap_of new v ≡ heap_with at ys
  turn_heap = heap_is new v (heap_with at ys) turn.stand.tree turn.stand.laid

  pub turn_sound : AllByRecursion AreBlocks (heap_with at ys) → IsSound new v
  turn_sound blocks = laid_sound new v (heap_with at ys) turn.stand.tree turn.stand.laid blocks

-- what a hole is to be changed to changes nothing but holes
pub hole_changes : (old new : BestFit) (w v : Words) (at : Context) (place n : ℕ) (xs ys : List Block) → bytes_in xs ≡ n → Turn old new w v at place xs ys → ChangesHoles w v (heap_with at (Hole n ∷ []))
hole_changes old new w v at place n xs ys bytes turn q outside =
    let kept = rw (bytes, sym turn.stand.start) at (turn.kept q) in
    let one : bytes_in (Hole n ∷ []) ≡ n = omega arith in
    kept (omega (arith, rw one at (weigh-site none (whole q) at (Hole n ∷ []))))

-- the tree of a heap is low
pub told_low : (fit : BestFit) (w : Words) → (told : IsTold fit w) → high told.tree ≤ 2 * binary_digits (hole_count (heap_of fit w)) + 1
told_low fit w told =
    high_bound told.tree told.laid.stands.balanced (binary_digits (hole_count (heap_of fit w)))
    (omega (arith, below_digits (hole_count (heap_of fit w)), holes_counted (heap_of fit w), told.laid.same one))

-- a heap's holes are fewer than their digits tell
pub same_few : (h k : Heap) → k ≡ h → hole_count k < 2 ^ binary_digits (hole_count h)
same_few h k same = subst (λ z. hole_count z < 2 ^ binary_digits (hole_count h)) (sym same) (below_digits (hole_count h))

-- ---- the best hole

-- the best hole of a heap, where one was found at a place
pub record IsBestAt (fit : BestFit) (w : Words) (size place : ℕ) : Type 0 where
  pub hole : Spot
  pub best : best_hole size (holes_of (heap_of fit w)) ≡ Some hole
  pub site : Context
  pub is : heap_with site (Hole hole.size ∷ []) ≡ heap_of fit w
  pub chunk : length site.older ≡ hole.chunk
  pub offset : bytes_in site.left ≡ hole.offset
  pub fits : size ≤ hole.size
  pub stand : Stand fit w site place (Hole hole.size ∷ [])
  pub there : place ≡ place_at hole.chunk hole.offset
  pub short : hole.offset < 2 ^ 32

module _ (fit : BestFit) (w : Words) (size place : ℕ) (told : IsTold fit w) (read : place ≡ found (key 0 size) told.tree) where
  found_place : IsPlaceOf place (best_hole size (holes_of (heap_of fit w)))
  found_place =
      let laid = told.laid in
      let few = sizes_few fit laid.few laid.sized in
      subst (λ p. IsPlaceOf p (best_hole size (holes_of (heap_of fit w)))) (sym read)
      (found-best size (heap_of fit w) told.tree laid.ordered.0 (short_from w 0 (sizes_of fit) (heap_of fit w) laid.chunks (omega arith)) laid.ordered.1 (none_at_zero (bytes_of fit) told.tree laid.nodes) laid.same)

  pub found_none : place ≡ 0 → None ≡ best_hole size (holes_of (heap_of fit w))
  found_none none_there = go (best_hole size (holes_of (heap_of fit w))) found_place
    where
      go : (o : Option Spot) → IsPlaceOf place o → None ≡ o
      go None there = refl
      go (Some x) there = absurd (omega arith)

  pub found_some : place ≢ 0 → IsBestAt fit w size place
  found_some some = go (best_hole size (holes_of (heap_of fit w))) refl found_place (best_spot size (heap_of fit w))
    where
      go : (o : Option Spot) → best_hole size (holes_of (heap_of fit w)) ≡ o → IsPlaceOf place o → IfFound (IsSpotOf (heap_of fit w)) size o → IsBestAt fit w size place
      go None best there spot = absurd (some there)
      go (Some x) best there spot =
          let at = spot.0 in
          let laid = subst (λ h. IsLaidOut fit w h told.tree) (sym at.is) told.laid in
          let part = site_open fit w at.site (Hole x.size ∷ []) told.tree laid in
          let start : start_of at.site ≡ place = sym (there ∙ ap (λ c. place_at c x.offset) (sym at.chunk) ∙ ap (λ o. place_at (length at.site.older) o) (sym at.offset)) in
          record {
            hole = x;
            best = best;
            site = at.site;
            is = at.is;
            chunk = at.chunk;
            offset = at.offset;
            fits = spot.1;
            stand = record { start = start; tree = told.tree; laid = laid };
            there = there;
            short = let o = at.offset in omega (arith, part.total, part.short, part.laid.0.sized.least);
          }

pub best_few : (fit : BestFit) (w : Words) (size place : ℕ) (is : IsBestAt fit w size place) → hole_count (heap_with is.site (Hole is.hole.size ∷ [])) < 2 ^ binary_digits (hole_count (heap_of fit w))
best_few fit w size place is = same_few (heap_of fit w) (heap_with is.site (Hole is.hole.size ∷ [])) is.is

-- ---- a hole taken

-- what taking the best hole for so many bytes leaves
pub record IsTaken (old new : BestFit) (w v : Words) (bytes : ℕ) : Type 0 where
  pub heap : heap_of new v ≡ taken bytes (heap_of old w)
  pub sound : IsSound new v
  pub sizes : sizes_of new ≡ sizes_of old
  pub others : ChangesHoles w v (heap_of old w)

pub hole_taken : (old new : BestFit) (w v : Words) (bytes size place : ℕ) → IsTold old w → size ≡ block_size bytes → IsBlockSize size → (is : IsBestAt old w size place) →
    Turn old new w v is.site place (Hole is.hole.size ∷ []) (cut size is.hole.size) → IsTaken old new w v bytes
hole_taken old new w v bytes size place told sized ok is turn =
    let n : ℕ = is.hole.size in
    let h : Heap = heap_of old w in
    let long = chunks_long w 0 (sizes_of old) (heap_with is.site (Hole n ∷ [])) is.stand.laid.chunks in
    let left = all_left IsLong is.site.left (Hole n ∷ is.site.right) (all_right AreLong is.site.older ((is.site.left ++ Hole n ∷ is.site.right) ∷ is.site.newer) long).0 in
    let best : best_hole (block_size bytes) (holes_of h) ≡ Some is.hole = subst (λ z. best_hole z (holes_of h) ≡ Some is.hole) sized is.best in
    record {
      heap = turn_heap old new w v is.site place (Hole n ∷ []) (cut size n) turn
          ∙ sym (taken_is size n is.site left)
          ∙ ap (λ k. slice_set k (length is.site.older) (taken_in size (bytes_in is.site.left) (chunk_of k (length is.site.older)))) is.is
          ∙ ap (λ c. slice_set h c (taken_in size (bytes_in is.site.left) (chunk_of h c))) is.chunk
          ∙ ap (λ o. slice_set h is.hole.chunk (taken_in size o (chunk_of h is.hole.chunk))) is.offset
          ∙ ap (λ z. slice_set h is.hole.chunk (taken_in z is.hole.offset (chunk_of h is.hole.chunk))) sized
          ∙ ap (λ o. taken_at (block_size bytes) o h) (sym best);
      sound = turn_sound old new w v is.site place (Hole n ∷ []) (cut size n) turn
          (taken_blocks size n is.site ok is.fits (subst (AllByRecursion AreBlocks) (sym is.is) told.blocks));
      sizes = turn.sizes;
      others = subst (ChangesHoles w v) is.is (hole_changes old new w v is.site place n (Hole n ∷ []) (cut size n) (omega arith) turn);
    }

-- a block's size is one
pub block_sized : (n : ℕ) → IsBlockSize (block_size n)
block_sized n = record { least = omega arith; even = omega arith }

-- where a block was found
pub addr_is : (fit : BestFit) (w : Words) (size place : ℕ) → (is : IsBestAt fit w size place) →
    Some (block_addr (record is.hole { chunk = place / 2 ^ 32 - 1; offset = place % 2 ^ 32 })) ≡ option_map block_addr (best_hole size (holes_of (heap_of fit w)))
addr_is fit w size place is =
    let there = is.there in
    let short = is.short in
    let chunk : place / 2 ^ 32 - 1 ≡ is.hole.chunk = omega arith in
    let offset : place % 2 ^ 32 ≡ is.hole.offset = omega arith in
    ap (λ c. Some (block_addr (record is.hole { chunk = c; offset = place % 2 ^ 32 }))) chunk
    ∙ ap (λ o. Some (block_addr (record is.hole { offset = o }))) offset
    ∙ ap (option_map block_addr) (sym is.best)

-- ---- a chunk more

chunks_more : (w : Words) (number n size : ℕ) (sizes : List ℕ) (heap : Heap) (c : List Block) → n ≡ number + length heap → IsChunk w n size c →
    AreChunks w number sizes heap → AreChunks w number (sizes ++ size ∷ []) (heap ++ c ∷ [])
chunks_more w number n size [] [] c at chunk are = (subst (λ z. IsChunk w z size c) (omega arith) chunk, tt)
chunks_more w number n size [] (b ∷ heap) c at chunk are = absurd are
chunks_more w number n size (s ∷ sizes) [] c at chunk are = absurd are
chunks_more w number n size (s ∷ sizes) (b ∷ heap) c at chunk are = (are.0, chunks_more w (number + 1) n size sizes heap c (omega arith) chunk are.1)

-- holes of chunks that have the bytes are holes
pub holes_fit : (bytes real : ℕ → ℕ) (t : Tree) → Fits bytes real → AreNodes (IsNode bytes) t → AreNodes (IsNode real) t
holes_fit bytes real t fits nodes a there = fits_node bytes real a fits (nodes a there)

-- sizes stay where one is put behind them
kept_before : (sizes : List ℕ) (bytes chunk : ℕ) → slice_index sizes chunk ≤ slice_index (sizes ++ bytes ∷ []) chunk
kept_before sizes bytes chunk =
    elim (cases_lt chunk (length sizes)) [
      | inl lt ↦ omega (arith, get_or-append sizes (bytes ∷ []) 0 chunk lt)
      | inr ge ↦ omega (arith, get_or_past sizes chunk 0 ge)
    ]

-- a heap with a chunk more
abbrev pub with_chunk : BestFit → ℕ → ℕ → BestFit
with_chunk fit number bytes = record { root = fit.root; count = number + 1; sizes = slice_set fit.sizes number bytes }

abbrev pub last_site : Heap → Context
last_site heap = record { older = heap; left = []; right = []; newer = [] }

-- the header of a new chunk was written, that of one used block
pub record IsChunkNext (fit : BestFit) (w x : Words) (place number bytes : ℕ) : Type 0 where
  pub told : IsTold fit w
  pub next : number ≡ length (heap_of fit w)
  pub start : place ≡ place_at number 0
  pub few : number < 64
  pub sized : IsBlockSize bytes
  pub short : bytes ≤ 2 ^ 32
  pub words : x ≡ with_word (with_word w place bytes) (place + 8) 1

-- what adding it as a hole leaves
pub record IsAdded (old new : BestFit) (w v : Words) (bytes : ℕ) : Type 0 where
  pub heap : heap_of new v ≡ heap_of old w ++ (Hole bytes ∷ []) ∷ []
  pub sound : IsSound new v
  pub sizes : sizes_of new ≡ sizes_of old ++ bytes ∷ []
  pub others : ChangesHoles w v (heap_of new v)

module _ (fit : BestFit) (w x : Words) (place number bytes : ℕ) (is : IsChunkNext fit w x place number bytes) where
  pub count_is : number ≡ fit.count
  count_is =
      let laid = is.told.laid in
      let few = laid.few in
      let sized = laid.sized in
      let long = chunks_length w 0 (sizes_of fit) (heap_of fit w) laid.chunks in
      let next = is.next in
      omega (arith, length-take-le fit.count fit.sizes (omega arith))

  at : place ≡ place_at (length (heap_of fit w)) 0
  at = is.start ∙ ap (λ n. place_at n 0) is.next

  pub sizes_more : sizes_of (with_chunk fit number bytes) ≡ sizes_of fit ++ bytes ∷ []
  sizes_more =
      let long = is.told.laid.sized in
      let few = is.few in
      take_more_set fit.sizes number bytes (omega arith) ∙ ap (λ n. take n fit.sizes ++ bytes ∷ []) count_is

  -- the chunks so far lie before it
  words_kept : (q : ℕ) → 1 ≤ weigh_all (whole q) none 0 (heap_of fit w) + weigh_all none (whole q) 0 (heap_of fit w) → x q ≡ w q
  words_kept q there =
      let start = at in
      let last : place_at (0 + length (heap_of fit w)) 0 ≡ place = omega arith in
      let all = rw last at (chunks_apart w q 0 (sizes_of fit) (heap_of fit w) is.told.laid.chunks) in
      let parts = weigh_all-parts (whole q) (whole q) 0 (heap_of fit w) in
      header_leaves w x place bytes is.words q (λ e. omega (arith, within_above (place_at 0 0) place q (omega arith))) (λ e. omega (arith, within_above (place_at 0 0) place q (omega arith)))

  fits_more : Fits (bytes_of fit) (bytes_of (with_chunk fit number bytes))
  fits_more chunk = subst (λ s. bytes_of fit chunk ≤ slice_index s chunk) (sym sizes_more) (kept_before (sizes_of fit) bytes chunk)

  chunk_laid : IsChunk x (length (heap_of fit w)) bytes (Used bytes ∷ [])
  chunk_laid = record {
    laid = subst (λ p. Laid x p (Used bytes ∷ [])) at (
      record {
        sized = is.sized;
        size = ap (λ z. z place) is.words ∙ with_word_other (with_word w place bytes) (place + 8) 1 place (λ e. omega arith) ∙ with_word_same w place bytes;
        state = ap (λ z. z (place + 8)) is.words ∙ with_word_same (with_word w place bytes) (place + 8) 1;
      },
      tt,
    );
    total = omega arith;
    short = is.short;
  }

  tidy_told : (q : ℕ) → TidyAll q 0 (heap_of fit w)
  tidy_told q = tidy_all q 0 (heap_of fit w) (chunks_long w 0 (sizes_of fit) (heap_of fit w) is.told.laid.chunks)

  laid_more : IsLaidOut (with_chunk fit number bytes) x (heap_with (last_site (heap_of fit w)) (Used bytes ∷ [])) is.told.tree
  laid_more = record {
    few = let few = is.few in omega arith;
    sized = length-set fit.sizes number bytes ∙ is.told.laid.sized;
    chunks = subst (λ s. AreChunks x 0 s (heap_of fit w ++ (Used bytes ∷ []) ∷ [])) (sym sizes_more)
        (chunks_more x 0 (length (heap_of fit w)) bytes (sizes_of fit) (heap_of fit w) (Used bytes ∷ []) (omega arith) chunk_laid
        (chunks_kept w x 0 (sizes_of fit) (heap_of fit w)
        (λ q head. let tidy = tidy_told q in words_kept q (omega (arith, tidy.used, tidy.holes, weigh_all-parts (heads q) (heads q) 0 (heap_of fit w))))
        is.told.laid.chunks));
    stands = record {
      at = is.told.laid.stands.at;
      holds = holds_kept w x is.told.tree
          (λ q in_tree. let tidy = tidy_told q in words_kept q (omega (arith, tidy.holes, is.told.laid.same (heads q), is.told.laid.same (links q))))
          is.told.laid.stands.holds;
      balanced = is.told.laid.stands.balanced;
      low = is.told.laid.stands.low;
      apart = is.told.laid.stands.apart;
    };
    nodes = holes_fit (bytes_of fit) (bytes_of (with_chunk fit number bytes)) is.told.tree fits_more is.told.laid.nodes;
    ordered = is.told.laid.ordered;
    same = λ f. omega (arith, is.told.laid.same f, weigh_all-append none (by_key f) 0 (heap_of fit w) ((Used bytes ∷ []) ∷ []));
  }

  pub more_asks : StandUsed (with_chunk fit number bytes) x (last_site (heap_of fit w)) place (Used bytes ∷ []) bytes
  more_asks = record {
    stand = record { start = sym at; tree = is.told.tree; laid = laid_more };
    used = tt;
    total = omega arith;
    some = omega (arith, is.sized.least);
  }

  pub more_fits : (real : ℕ → ℕ) → Fits (bytes_of fit) real → bytes ≤ real number → Fits (bytes_of (with_chunk fit number bytes)) real
  more_fits real fits room =
      subst (λ s. (chunk : ℕ) → slice_index s chunk ≤ real chunk) (sym sizes_more)
      (fits_one_more (sizes_of fit) bytes real fits (subst (λ n. bytes ≤ real n) (is.next ∙ sym (chunks_length w 0 (sizes_of fit) (heap_of fit w) is.told.laid.chunks)) room))

  pub more_holes : hole_count (heap_with (last_site (heap_of fit w)) (Used bytes ∷ [])) ≡ hole_count (heap_of fit w)
  more_holes =
      omega (
        arith,
        holes_counted (heap_of fit w),
        holes_counted (heap_with (last_site (heap_of fit w)) (Used bytes ∷ [])),
        weigh_all-append none one 0 (heap_of fit w) ((Used bytes ∷ []) ∷ []),
      )

  pub chunk_added : (new : BestFit) (v : Words) → Turn (with_chunk fit number bytes) new x v (last_site (heap_of fit w)) place (Used bytes ∷ []) (Hole bytes ∷ []) → IsAdded fit new w v bytes
  chunk_added new v turn =
      let heap : heap_of new v ≡ heap_of fit w ++ (Hole bytes ∷ []) ∷ [] = turn_heap (with_chunk fit number bytes) new x v (last_site (heap_of fit w)) place (Used bytes ∷ []) (Hole bytes ∷ []) turn in
      record {
        heap = heap;
        sound = turn_sound (with_chunk fit number bytes) new x v (last_site (heap_of fit w)) place (Used bytes ∷ []) (Hole bytes ∷ []) turn
            (all_append AreBlocks (heap_of fit w) ((Hole bytes ∷ []) ∷ []) is.told.blocks (is.sized, tt));
        sizes = turn.sizes ∙ sizes_more;
        others = λ q clear.
            let clear' = rw heap at clear in
            let start = at in
            let last : place_at (0 + length (heap_of fit w)) 0 ≡ place = omega arith in
            let all = rw last at (weigh_all-append none (whole q) 0 (heap_of fit w) ((Hole bytes ∷ []) ∷ [])) in
            let apart : within place (place + bytes) q ≡ 0 = omega arith in
            let least = is.sized.least in
            hole_changes (with_chunk fit number bytes) new x v (last_site (heap_of fit w)) place bytes (Used bytes ∷ []) (Hole bytes ∷ []) (omega arith) turn q clear'
            ∙ header_leaves w x place bytes is.words q (λ e. outside place bytes q 0 (omega arith) apart (omega arith)) (outside place bytes q 8 (omega arith) apart);
      }
