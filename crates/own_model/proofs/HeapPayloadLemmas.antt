-- The payloads of a heap lie apart, and are found until they are given back.
use Rattle.std.proofs.Common.{rules, ◌≡◌, ◌≢◌, ℕ, ◌+◌, ◌-◌, ◌*◌, ◌<◌, ◌≤◌, ◌⊎◌, inl, inr, true, false, List, length, Some, refl, sym, ap, ◌∙◌, arith, is_some}
use Rattle.std.proofs.lemmas.Bool.{cases_eq, cases_lt, false_from_ne_true}
use Rattle.std.proofs.lemmas.Bool.Decides.{nat_tests}
use Rattle.std.proofs.lemmas.Option.{none-some}
use Rattle.std.specs.Prelude.{None}
use Rattle.std.specs.Option.{option_map}
use Rattle.std.specs.FinMap.{get, remove}
use Rattle.own_model.proofs.HeapBestFitLemmas.{used_apart}
use Rattle.own_model.proofs.StepBytesLemmas.{found_block}
use Rattle.own_model.proofs.HeapChunkLemmas.{starts_differ}
use Rattle.own_model.proofs.EntryLemmas.{finds_in_map, finds_none_in_map}
use Rattle.own_model.proofs.HeapStepLemmas.{IsWithin, IsUsed, payload_within_range, payload_used, large_within, small_within, chunk_in_map, chunk_is, heap_range, heap_lies}
use Rattle.own_model.proofs.NatMapLemmas.{before_remove, get-remove_same}
use Rattle.own_model.proofs.HeapOwnLemmas.{range_of_bytes, large_range, chunk_map}
use Rattle.own_model.proofs.SlicedPayloadLemmas.{own_range, range_of_sliced, above_user, payload_tests, payload_holds}
use Rattle.own_model.specs.BestFit.{chunk_of, used_at}
use Rattle.own_model.specs.Call.Call.{Del}
use Rattle.own_model.specs.HeapWindow.{heap_low, heap_high, largest_machine}
use Rattle.own_model.specs.OwnHeap.{start_of, chunk_with, offset_of}
use Rattle.own_model.specs.OwnState.{OwnState}
use Rattle.own_model.specs.OwnStep.{script_step}
use Rattle.own_model.specs.Place.{found}
use Rattle.own_model.specs.Place.Place.{InBlock}
use Rattle.own_model.specs.Region.{overlap, resolved}
use Rattle.own_model.proofs.HeapRangeLemmas.{range_of}
use Rattle.own_model.specs.Sliced.{sliced_header, block_pages, block_found, holds_in_payload, ranges_of_blocks}
use Rattle.own_model.specs.Sound.{IsSound}

-- of ranges of some pages that lie apart one ends before the other starts
one_first : (a p b q : ℕ) → 1 ≤ p → 1 ≤ q → overlap a p b q ≡ false → (a + p * 4096 ≤ b) ⊎ (b + q * 4096 ≤ a)
one_first a p b q some more apart = search (rules, cases_lt)

module _ (s : OwnState) (h : IsSound s) where
  -- a payload and the range within which it lies
  within : (a : ℕ) (x : List ℕ) → get s.heap.payloads a ≡ Some x → (start : ℕ) × IsWithin s.heap start a (length x)
  within a x there = payload_within_range (heap_high largest_machine) s.heap h.heap_parts (heap_lies s h) a x there

  -- it lies within the heap window
  pub heap_payload_within : (a : ℕ) (x : List ℕ) → get s.heap.payloads a ≡ Some x → (heap_low ≤ a) × (a + length x ≤ heap_high largest_machine)
  heap_payload_within a x there = omega (arith, within a x there, (heap_lies s h).within (within a x there).0 (within a x there).1.range (within a x there).1.there)

  -- what lies in ranges that start apart lies apart
  ranges_part : (a b m n start other : ℕ) (p : IsWithin s.heap start a m) (q : IsWithin s.heap other b n) → start ≢ other → (a + m ≤ b) ⊎ (b + n ≤ a)
  ranges_part a b m n start other p q differ =
      let lie = heap_lies s h in
      elim (one_first start p.range.pages other q.range.pages (lie.some start p.range p.there) (lie.some other q.range q.there) (lie.apart start other p.range q.range p.there q.there differ)) [
        | inl first ↦ inl (omega (arith, first, p.to, q.from))
        | inr later ↦ inr (omega (arith, later, q.to, p.from))
      ]

  -- a used block, which no large block is
  abbrev Used : ℕ → ℕ → Type 0
  Used = IsUsed (heap_high largest_machine) s.heap h.heap_parts (heap_lies s h)

  -- no large block starts where a chunk does
  no_chunk_there : (a bytes i : ℕ) → get s.heap.large a ≡ Some bytes → i < length s.heap.shape.chunks → a ≢ start_of s.heap i
  no_chunk_there a bytes i large within same =
      let chunk = chunk_in_map (heap_high largest_machine) s.heap h.heap_parts (heap_lies s h) i within in
      let free = h.heap_parts.apart a (ap is_some (ap (get (chunk_map s.heap.starts s.heap.shape.chunks)) same ∙ chunk)) in
      none-some (range_of_bytes bytes) (sym free ∙ large_range s.heap.large a bytes large)

  -- nor do two chunks start at one address
  chunks_start_apart : (i j : ℕ) → i < length s.heap.shape.chunks → j < length s.heap.shape.chunks → i ≢ j → start_of s.heap i ≢ start_of s.heap j
  chunks_start_apart i j one other differ same = grind (arith, nat_tests, cases_lt, starts_differ)

  module _ (a b : ℕ) (x y : List ℕ) (first : get s.heap.payloads a ≡ Some x) (second : get s.heap.payloads b ≡ Some y) (differ : a ≢ b) where
    module _ (n m : ℕ) (p : Used (a - 16) n) (long : length x ≡ n - 16) (q : Used (b - 16) m) (size : length y ≡ m - 16) where
      -- the numbers of their chunks, and how far into them they lie
      abbrev i : ℕ
      i = chunk_with s.heap (a - 16)

      abbrev j : ℕ
      j = chunk_with s.heap (b - 16)

      abbrev into : ℕ
      into = offset_of s.heap (a - 16)

      abbrev past : ℕ
      past = offset_of s.heap (b - 16)

      -- two used blocks of one chunk lie apart
      in_chunk : i ≡ j → (a + length x ≤ b) ⊎ (b + length y ≤ a)
      in_chunk same =
          let sizes = (chunk_is (heap_high largest_machine) s.heap h.heap_parts (heap_lies s h) i p.within).sizes in
          let other : used_at past (chunk_of s.heap.shape.chunks i) ≡ Some m = ap (λ k. used_at past (chunk_of s.heap.shape.chunks k)) same ∙ q.used in
          let start : start_of s.heap i ≡ start_of s.heap j = ap (start_of s.heap) same in
          elim (cases_lt into past) [
            | inl before ↦ inl (omega (arith, used_apart into past n m (chunk_of s.heap.shape.chunks i) sizes p.used other before, p.at, q.at, p.above, q.above, start, long, p.least))
            | inr after ↦
                let less : past < into = omega (arith, after, p.at, q.at, p.above, q.above, start, differ) in
                inr (omega (arith, used_apart past into m n (chunk_of s.heap.shape.chunks i) sizes other p.used less, p.at, q.at, p.above, q.above, start, size, q.least))
          ]

      -- so do any two
      smalls_apart : (a + length x ≤ b) ⊎ (b + length y ≤ a)
      smalls_apart =
          let one = small_within (heap_high largest_machine) s.heap h.heap_parts (heap_lies s h) a x first n p long in
          let other = small_within (heap_high largest_machine) s.heap h.heap_parts (heap_lies s h) b y second m q size in
          elim (cases_eq i j) [
            | inl same ↦ in_chunk same
            | inr apart ↦ ranges_part a b (length x) (length y) (start_of s.heap i) (start_of s.heap j) one other (chunks_start_apart i j p.within q.within apart)
          ]

  -- what is no large block is a used one
  used_block : (a : ℕ) (x : List ℕ) → get s.heap.payloads a ≡ Some x → get s.heap.large a ≡ None → (n : ℕ) × Used (a - 16) n × (length x ≡ n - 16)
  used_block a x there small = payload_used (heap_high largest_machine) s.heap h.heap_parts (heap_lies s h) a x there small

  -- a large block and a used one lie apart
  mixed_apart : (a b bytes : ℕ) (x y : List ℕ) → get s.heap.payloads a ≡ Some x → get s.heap.payloads b ≡ Some y → get s.heap.large a ≡ Some bytes → get s.heap.large b ≡ None → (a + length x ≤ b) ⊎ (b + length y ≤ a)
  mixed_apart a b bytes x y first second large small =
      let used = used_block b y second small in
      ranges_part a b (length x) (length y) a (start_of s.heap (chunk_with s.heap (b - 16)))
      (large_within (heap_high largest_machine) s.heap h.heap_parts (heap_lies s h) a x first bytes large)
      (small_within (heap_high largest_machine) s.heap h.heap_parts (heap_lies s h) b y second used.0 used.1 used.2)
      (no_chunk_there a bytes (chunk_with s.heap (b - 16)) large used.1.within)

  -- payloads of a heap lie apart
  pub heap_payloads_apart : (a b : ℕ) (x y : List ℕ) → get s.heap.payloads a ≡ Some x → get s.heap.payloads b ≡ Some y → a ≢ b → (a + length x ≤ b) ⊎ (b + length y ≤ a)
  heap_payloads_apart a b x y first second differ = elim (get s.heap.large a) as (λ o. get s.heap.large a ≡ o → (a + length x ≤ b) ⊎ (b + length y ≤ a)) [
    | Some n ↦ λ large. elim (get s.heap.large b) as (λ o. get s.heap.large b ≡ o → (a + length x ≤ b) ⊎ (b + length y ≤ a)) [
      | Some m ↦ λ other. ranges_part a b (length x) (length y) a b
          (large_within (heap_high largest_machine) s.heap h.heap_parts (heap_lies s h) a x first n large)
          (large_within (heap_high largest_machine) s.heap h.heap_parts (heap_lies s h) b y second m other) differ
      | None ↦ λ small. mixed_apart a b n x y first second large small
    ] refl
    | None ↦ λ small. elim (get s.heap.large b) as (λ o. get s.heap.large b ≡ o → (a + length x ≤ b) ⊎ (b + length y ≤ a)) [
      | Some m ↦ λ large. elim (mixed_apart b a m y x second first large small) [ inl later ↦ inr later | inr before ↦ inl before ]
      | None ↦ λ too.
          let one = used_block a x first small in
          let other = used_block b y second too in
          smalls_apart a b x y first second differ one.0 other.0 one.1 one.2 other.1 other.2
    ] refl
  ] refl

  -- and from those of sliced blocks
  pub heap_beside : (a b : ℕ) (x y : List ℕ) → get s.heap.payloads a ≡ Some x → get s.sliced b ≡ Some y → (a + length x ≤ b) ⊎ (b + length y ≤ a)
  heap_beside a b x y first second =
      let at = within a x first in
      let block = h.blocks b y second in
      let range = range_of_sliced s h b y second in
      let apart = h.heap.apart at.0 (b - sliced_header) at.1.range (range_of y) (heap_range s h at.0 at.1.range at.1.there) (own_range s h b y second)
      (λ same. none-some at.1.range (sym (h.starts at.0 (ap is_some (ap (get (ranges_of_blocks s.sliced)) same ∙ range))) ∙ at.1.there)) in
      elim (one_first at.0 at.1.range.pages (b - sliced_header) (block_pages y) ((heap_lies s h).some at.0 at.1.range at.1.there) (omega arith) apart) [
        | inl before ↦ inl (omega (arith, before, at.1.to, block.header))
        | inr after ↦ inr (omega (arith, after, at.1.from, block.header, block.whole))
      ]

  module _ (address count block : ℕ) (payload : List ℕ) (there : get s.heap.payloads block ≡ Some payload) (some : 0 < count) (from : block ≤ address) (to : address + count ≤ block + length payload) where
    -- no region holds a range in a payload of the heap
    no_region : resolved s.regions address count ≡ None
    no_region = above_user s h address count (omega (arith, from, (heap_payload_within block payload there).0)) some

    -- nor does a sliced block's payload
    no_sliced : (k : ℕ) (w : List ℕ) → get s.sliced k ≡ Some w → holds_in_payload address count (k, w) ≡ false
    no_sliced k w is = search (rules, false_from_ne_true, payload_tests, heap_beside)

    -- so none is found there
    none_sliced : block_found s.sliced address count ≡ None
    none_sliced = ap (option_map (λ b. (b.0, address - b.0))) (finds_none_in_map (holds_in_payload address count) s.sliced no_sliced)

    -- only this payload of the heap holds it
    one_holds : (k : ℕ) (w : List ℕ) → get s.heap.payloads k ≡ Some w → holds_in_payload address count (k, w) ≡ true → k ≡ block
    one_holds k w is holds = search (rules, cases_eq, payload_tests, heap_payloads_apart)

    -- each range of some bytes within a payload is found there
    pub heap_payload_found : found s address count ≡ Some (InBlock block (address - block))
    heap_payload_found = search (rules, found_block, no_region, none_sliced, finds_in_map, payload_holds, one_holds)

    -- without it, nothing is
    none_left : block_found (remove s.heap.payloads block) address count ≡ None
    none_left =
        ap (option_map (λ b. (b.0, address - b.0))) (finds_none_in_map (holds_in_payload address count) (remove s.heap.payloads block)
        (λ k w is. false_from_ne_true _ (λ holds.
        let same = one_holds k w (before_remove s.heap.payloads block k w is) holds in
        none-some w (sym (get-remove_same s.heap.payloads block k same) ∙ is))))

    -- so once the block is given back, nothing is found
    pub heap_payload_gone : found (script_step (Del block) s).next address count ≡ None
    heap_payload_gone = search (rules, found_block, no_region, none_sliced, none_left)
