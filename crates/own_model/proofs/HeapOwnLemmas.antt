-- Where a heap's chunks and large blocks stand, and how many bytes they are.
use Rattle.std.proofs.lemmas.Bool.Decides.{nat_tests}
use Rattle.std.proofs.Common.{rules, ◌≡◌, ℕ, ◌*◌, ◌≤◌, ◌++◌, zero, suc, List, [], ◌∷◌, length, Some, refl, sym, ap, ◌∙◌, arith, set, sum_by}
use Rattle.std.proofs.lemmas.Bool.{cases_lt}
use Rattle.std.proofs.lemmas.Option.{none-some, same_Some}
use Rattle.std.proofs.lemmas.List.{set_past}
use Rattle.std.proofs.lemmas.List.Sums.{sum_by-set, sum_by-cons}
use Rattle.std.specs.Prelude.{None}
use Rattle.std.specs.Cmp.{nat_cmp_total}
use Rattle.std.specs.FinMap.{get, insert, remove, empty, from_entries, get-from_entries, from_entries_push, nat_cmp-IsAntisymmetric}
use Rattle.own_model.proofs.NatMapJoinedLemmas.{joined-empty, joined-insert_first, joined-insert_second, joined_free, joined_before, from_either, get-joined, total-insert_le, total-joined_le}
use Rattle.own_model.proofs.NatMapLemmas.{picked-empty, picked-insert_some, before_remove, get-picked, get-picked_at, get-empty, each_after_insert, and_then_from}
use Rattle.own_model.proofs.Totals.{total-empty, total-picked, total_times_le}
use Rattle.own_model.specs.BestFit.{chunk_of}
use Rattle.own_model.specs.Heap.{Heap, Block, IsChunk, bytes_in}
use Rattle.own_model.specs.NatMap.{NatMap, joined, total}
use Rattle.own_model.specs.OwnHeap.{OwnHeap, no_heap, chunk_ranges, range_pages, ranges_of_large, ranges_of_heap}
use Rattle.own_model.specs.Region.{Region}
use Rattle.own_model.specs.Sound.{IsHeap, KeysApart}
use Rattle.std.specs.List.{AllByRecursion}
use Rattle.own_model.specs.Use.{heap_size}

-- so many bytes as a range of pages
abbrev pub range_of_bytes : ℕ → Region
range_of_bytes bytes = record { of = 0; pages = range_pages bytes }

-- chunks as a map of ranges
abbrev pub chunk_map : List ℕ → Heap → NatMap Region
chunk_map starts chunks = from_entries (chunk_ranges starts chunks)

-- nothing stands for a heap of which nothing was asked
pub ranges-no_heap : ranges_of_heap no_heap ≡ empty
ranges-no_heap = ap (λ m. joined empty m) (picked-empty (λ bytes. Some (range_of_bytes bytes))) ∙ joined-empty empty

-- nor is it in the way of what does
pub joined-no_heap : (m : NatMap Region) → joined m (ranges_of_heap no_heap) ≡ m
joined-no_heap m = ap (joined m) ranges-no_heap ∙ joined-empty m

-- ---- chunks

-- a chunk changed to one of as many bytes stands where it stood
pub chunk_ranges-set : (starts : List ℕ) (chunks : Heap) (i : ℕ) (blocks : List Block) → bytes_in blocks ≡ bytes_in (chunk_of chunks i) → chunk_ranges starts (set chunks i blocks) ≡ chunk_ranges starts chunks
chunk_ranges-set [] chunks i blocks e = refl
chunk_ranges-set (start ∷ starts) [] i blocks e = refl
chunk_ranges-set (start ∷ starts) (c ∷ chunks) zero blocks e = ap (λ n. (start, range_of_bytes n) ∷ chunk_ranges starts chunks) e
chunk_ranges-set (start ∷ starts) (c ∷ chunks) (suc i) blocks e = ap (λ es. (start, range_of_bytes (bytes_in c)) ∷ es) (chunk_ranges-set starts chunks i blocks e)

-- and leaves the bytes of all
pub chunk_bytes-set : (chunks : Heap) (i : ℕ) (blocks : List Block) → bytes_in blocks ≡ bytes_in (chunk_of chunks i) → sum_by bytes_in (set chunks i blocks) ≡ sum_by bytes_in chunks
chunk_bytes-set chunks i blocks e = search (rules, cases_lt, sum_by-set, set_past)

-- a chunk more is a range more
pub chunk_ranges-append : (starts : List ℕ) (chunks : Heap) (start : ℕ) (blocks : List Block) → length starts ≡ length chunks →
    chunk_ranges (starts ++ start ∷ []) (chunks ++ blocks ∷ []) ≡ chunk_ranges starts chunks ++ (start, range_of_bytes (bytes_in blocks)) ∷ []
chunk_ranges-append [] [] start blocks e = refl
chunk_ranges-append [] (c ∷ chunks) start blocks e = absurd (omega (arith, e))
chunk_ranges-append (s ∷ starts) [] start blocks e = absurd (omega (arith, e))
chunk_ranges-append (s ∷ starts) (c ∷ chunks) start blocks e = ap (λ es. (s, range_of_bytes (bytes_in c)) ∷ es) (chunk_ranges-append starts chunks start blocks (omega (arith, e)))

-- the same of the map, where nothing starts there yet
pub chunk_map-append : (starts : List ℕ) (chunks : Heap) (start : ℕ) (blocks : List Block) → length starts ≡ length chunks → get (chunk_map starts chunks) start ≡ None →
    chunk_map (starts ++ start ∷ []) (chunks ++ blocks ∷ []) ≡ insert (chunk_map starts chunks) start (range_of_bytes (bytes_in blocks))
chunk_map-append starts chunks start blocks e free =
    ap from_entries (chunk_ranges-append starts chunks start blocks e)
    ∙ from_entries_push nat_cmp_total nat_cmp-IsAntisymmetric (chunk_ranges starts chunks) start (range_of_bytes (bytes_in blocks)) (sym (get-from_entries nat_cmp_total (chunk_ranges starts chunks) start) ∙ free)

-- the pages of all chunks are no more bytes than they have
chunk_pages_le : (starts : List ℕ) (chunks : Heap) → AllByRecursion IsChunk chunks → total (λ region. region.pages) (chunk_map starts chunks) * 4096 ≤ sum_by bytes_in chunks
chunk_pages_le [] chunks each = omega (arith, total-empty (λ (region : Region). region.pages))
chunk_pages_le (start ∷ starts) [] each = omega (arith, total-empty (λ (region : Region). region.pages))
chunk_pages_le (start ∷ starts) (c ∷ chunks) each =
    omega (arith, total-insert_le (λ region. region.pages) (chunk_map starts chunks) start (range_of_bytes (bytes_in c)), chunk_pages_le starts chunks each.1, sum_by-cons bytes_in c chunks, each.0.pages.some, each.0.pages.whole)

-- the pages of all large blocks are no more bytes than they have
large_pages_le : (large : NatMap ℕ) → ((start bytes : ℕ) → get large start ≡ Some bytes → range_pages bytes * 4096 ≤ bytes) → total (λ region. region.pages) (ranges_of_large large) * 4096 ≤ total (λ bytes. bytes) large
large_pages_le large each = search (rules, total-picked, total_times_le)

-- the pages of a heap are no more bytes than it has
pub heap_pages_le : (heap : OwnHeap) → IsHeap heap → total (λ region. region.pages) (ranges_of_heap heap) * 4096 ≤ heap_size heap
heap_pages_le heap h = search (rules, total-joined_le, chunk_pages_le, large_pages_le)

-- ---- each range has a page

-- a chunk's has
chunk_some : (starts : List ℕ) (chunks : Heap) (q : ℕ) (r : Region) → get (chunk_map starts chunks) q ≡ Some r → 1 ≤ r.pages
chunk_some [] chunks q r there = absurd (none-some r (sym (get-empty q) ∙ there))
chunk_some (start ∷ starts) [] q r there = absurd (none-some r (sym (get-empty q) ∙ there))
chunk_some (start ∷ starts) (c ∷ chunks) q r there =
    each_after_insert (chunk_map starts chunks) start (range_of_bytes (bytes_in c)) (λ _ x. 1 ≤ x.pages) (chunk_some starts chunks) (omega arith) q r there

-- so has a large block's
large_some : (large : NatMap ℕ) (q : ℕ) (r : Region) → get (ranges_of_large large) q ≡ Some r → 1 ≤ r.pages
large_some large q r there = grind (arith, nat_tests, and_then_from, get-picked, same_Some)

-- so has each of a heap's
pub heap_some : (heap : OwnHeap) (q : ℕ) (r : Region) → get (ranges_of_heap heap) q ≡ Some r → 1 ≤ r.pages
heap_some heap q r there = search (rules, from_either, get-joined, chunk_some, large_some)

-- where a large block stands, its range does
pub large_range : (large : NatMap ℕ) (address bytes : ℕ) → get large address ≡ Some bytes → get (ranges_of_large large) address ≡ Some (range_of_bytes bytes)
large_range large address bytes there = get-picked_at (λ n. Some (range_of_bytes n)) large address bytes there

-- ---- where a changed heap stands

module _ (heap : OwnHeap) where
  -- a chunk changed to one of as many bytes leaves where all stand
  pub ranges-set : (i : ℕ) (blocks : List Block) → bytes_in blocks ≡ bytes_in (chunk_of heap.shape.chunks i) →
      joined (chunk_map heap.starts (set heap.shape.chunks i blocks)) (ranges_of_large heap.large) ≡ ranges_of_heap heap
  ranges-set i blocks as_many = ap (λ es. joined (from_entries es) (ranges_of_large heap.large)) (chunk_ranges-set heap.starts heap.shape.chunks i blocks as_many)

  module _ (start : ℕ) (free : get (ranges_of_heap heap) start ≡ None) where
    -- nothing of either starts there
    abbrev both_free : (get (chunk_map heap.starts heap.shape.chunks) start ≡ None) × (get (ranges_of_large heap.large) start ≡ None)
    both_free = joined_free (chunk_map heap.starts heap.shape.chunks) (ranges_of_large heap.large) start free

    -- a chunk more is a range more
    pub ranges-chunk : (blocks : List Block) → length heap.starts ≡ length heap.shape.chunks →
        joined (chunk_map (heap.starts ++ start ∷ []) (heap.shape.chunks ++ blocks ∷ [])) (ranges_of_large heap.large) ≡ insert (ranges_of_heap heap) start (range_of_bytes (bytes_in blocks))
    ranges-chunk blocks e =
        ap (λ m. joined m (ranges_of_large heap.large)) (chunk_map-append heap.starts heap.shape.chunks start blocks e both_free.0)
        ∙ joined-insert_first (chunk_map heap.starts heap.shape.chunks) (ranges_of_large heap.large) start (range_of_bytes (bytes_in blocks))

    -- so is a large block more
    pub ranges-large : (bytes : ℕ) → joined (chunk_map heap.starts heap.shape.chunks) (ranges_of_large (insert heap.large start bytes)) ≡ insert (ranges_of_heap heap) start (range_of_bytes bytes)
    ranges-large bytes =
        ap (joined (chunk_map heap.starts heap.shape.chunks)) (picked-insert_some (λ n. Some (range_of_bytes n)) heap.large start bytes (range_of_bytes bytes) refl)
        ∙ joined-insert_second (chunk_map heap.starts heap.shape.chunks) (ranges_of_large heap.large) start (range_of_bytes bytes) both_free.0

  -- where a large block goes, what is left was there
  pub ranges-without : (address : ℕ) → KeysApart (chunk_map heap.starts heap.shape.chunks) (ranges_of_large heap.large) → (q : ℕ) (r : Region) →
      get (joined (chunk_map heap.starts heap.shape.chunks) (ranges_of_large (remove heap.large address))) q ≡ Some r → get (ranges_of_heap heap) q ≡ Some r
  ranges-without address apart = search (rules, joined_before, and_then_from, get-picked, large_range, before_remove)
