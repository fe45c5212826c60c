-- The payload that holds a range of addresses, and the bytes that are read and written there.
use Rattle.std.proofs.Common.{rules, ◌≡◌, ◌≢◌, ℕ, ◌+◌, ◌-◌, ◌*◌, ◌<◌, ◌≤◌, ◌&&◌, ◌⊎◌, inl, inr, Bool, true, false, List, length, nat_le, Some, refl, sym, ap, subst, ◌∙◌, true≢false, arith, is_some}
use Rattle.std.proofs.lemmas.Bool.{cases_eq, cases_lt, false_from_ne_true}
use Rattle.std.proofs.lemmas.Bool.Decides.{nat_tests}
use Rattle.std.proofs.lemmas.Option.{none-some, same_Some, some_pair_parts}
use Rattle.std.specs.Prelude.{Option, None}
use Rattle.std.specs.Option.{option_map, option_or}
use Rattle.std.specs.List.{find}
use Rattle.std.specs.FinMap.{get, insert, entries}
use Rattle.trade_base.specs.declared.refusal.Refusal.{Refusal}
use Rattle.trade_base.specs.declared.refusal.Refusal.TheVariants.{PageFault}
use Rattle.own_model.proofs.StepBytesLemmas.{found_payload, found_block, peeks_payload, peeks_block, pokes_payload, pokes_block}
use Rattle.own_model.proofs.NatMapJoinedLemmas.{get-joined_first}
use Rattle.own_model.proofs.HeapStepLemmas.{payload_within_range, heap_range, heap_lies, not_both}
use Rattle.own_model.proofs.EntryLemmas.{sizes_alike, find-sized, sized, found_in_map, finds_in_map, finds_none_in_map}
use Rattle.own_model.proofs.HeapRangeLemmas.{range_of, range_at}
use Rattle.own_model.proofs.NatMapLemmas.{natmaps, get-insert_same, before_remove, get-remove_same}
use Rattle.own_model.proofs.RegionLemmas.{resolved_facts}
use Rattle.own_model.proofs.RegionRangeLemmas.{slice_range-with_part, ReadsBack, read_after}
use Rattle.own_model.proofs.ByteLemmas.{length-with_part}
use Rattle.own_model.specs.HeapWindow.{heap_low, heap_high, largest_machine}
use Rattle.own_model.specs.NatMap.{NatMap}
use Rattle.own_model.specs.OwnState.{OwnState, with_part, heap_ranges}
use Rattle.own_model.specs.OwnStep.{unless, count_refusal, poked, payload_poked, block_poked, script_step}
use Rattle.own_model.specs.Call.Call.{Peek, Poke, Sdel}
use Rattle.own_model.specs.Place.{Place, found, in_dataspace, in_payload, in_block}
use Rattle.own_model.specs.Place.Place.{InDataspace, InPayload, InBlock}
use Rattle.own_model.specs.Region.{overlap, resolved}
use Rattle.own_model.specs.Reply.{Reply}
use Rattle.own_model.specs.Reply.Reply.{Selected, Attached, Bytes, Done, Quotas, Reserved, Told, Refused}
use Rattle.own_model.specs.Sliced.{sliced_header, block_pages, block_found, holds_in_payload, ranges_of_blocks}
use Rattle.own_model.specs.Sound.{IsSound}

-- ---- which payload

-- a range that is found in a payload lies in no region
payload_parts : (o p q : Option (ℕ × ℕ)) (block offset : ℕ) → option_or (option_map in_dataspace o) (option_or (option_map in_payload p) (option_map in_block q)) ≡ Some (InPayload block offset) → (o ≡ None) × (p ≡ Some (block, offset))
payload_parts (Some d) p q block offset is = absurd (cc)
payload_parts None None None block offset is = absurd (none-some (InPayload block offset) is)
payload_parts None None (Some b) block offset is = absurd (cc)
payload_parts None (Some q) b block offset is = grind (arith, nat_tests, natmaps, same_Some)

-- and one that is found in a payload of the heap lies in no sliced block's either
block_parts : (o p q : Option (ℕ × ℕ)) (block offset : ℕ) → option_or (option_map in_dataspace o) (option_or (option_map in_payload p) (option_map in_block q)) ≡ Some (InBlock block offset) →
    (o ≡ None) × (p ≡ None) × (q ≡ Some (block, offset))
block_parts (Some d) p q block offset is = absurd (cc)
block_parts None (Some b) q block offset is = absurd (cc)
block_parts None None None block offset is = absurd (none-some (InBlock block offset) is)
block_parts None None (Some b) block offset is = grind (arith, nat_tests, natmaps, same_Some)

-- the tests of a payload that holds a range
pub payload_tests : (address count block size : ℕ) → nat_le block address && nat_le (address + count) (block + size) ≡ true → (block ≤ address) × (address + count ≤ block + size)
payload_tests address count block size h = grind (arith, nat_tests)

-- and back
pub payload_holds : (address count block size : ℕ) → block ≤ address → address + count ≤ block + size → nat_le block address && nat_le (address + count) (block + size) ≡ true
payload_holds address count block size from to = grind (arith, nat_tests)

-- what holds a range is a payload that has all of it
block_found_fits : (blocks : NatMap (List ℕ)) (address count block offset : ℕ) (o : Option (ℕ × List ℕ)) → find (holds_in_payload address count) (entries blocks) ≡ o →
    option_map {U = ℕ × ℕ} (λ b. (b.0, address - b.0)) o ≡ Some (block, offset) → (payload : List ℕ) × (get blocks block ≡ Some payload) × (block + offset ≡ address) × (offset + count ≤ length payload)
block_found_fits blocks address count block offset None at is = absurd (none-some (block, offset) is)
block_found_fits blocks address count block offset (Some b) at is =
    let there = found_in_map (holds_in_payload address count) blocks b at in
    let tests = payload_tests address count b.0 (length b.1) there.0 in
    let from = tests.0 in
    let to = tests.1 in
    let parts = some_pair_parts b.0 block (address - b.0) offset is in
    let first = parts.0 in
    let second = parts.1 in
    (b.1, subst (λ k. get blocks k ≡ Some b.1) first there.1, omega arith, omega arith)

-- the same of what is found
pub payload_fits : (s : OwnState) (address count block offset : ℕ) → found s address count ≡ Some (InPayload block offset) →
    (payload : List ℕ) × (get s.sliced block ≡ Some payload) × (block + offset ≡ address) × (offset + count ≤ length payload)
payload_fits s address count block offset is = grind (arith, nat_tests, natmaps, payload_parts, block_found_fits)

-- and of what is found in the heap
pub block_fits : (s : OwnState) (address count block offset : ℕ) → found s address count ≡ Some (InBlock block offset) →
    (payload : List ℕ) × (get s.heap.payloads block ≡ Some payload) × (block + offset ≡ address) × (offset + count ≤ length payload)
block_fits s address count block offset is = grind (arith, nat_tests, natmaps, block_parts, block_found_fits)

-- an entry and its size give the same place
same_place : (address : ℕ) (o : Option (ℕ × List ℕ)) → option_map {U = ℕ × ℕ} (λ b. (b.0, address - b.0)) o ≡ option_map (λ p. (p.0, address - p.0)) (option_map (sized length) o)
same_place address None = refl
same_place address (Some b) = refl

-- which payload holds a range depends on addresses and lengths alone
pub block_found_alike : (xs ys : NatMap (List ℕ)) → ((q : ℕ) → option_map length (get xs q) ≡ option_map length (get ys q)) → (address count : ℕ) → block_found xs address count ≡ block_found ys address count
block_found_alike xs ys alike address count =
    let test : ℕ × ℕ → Bool = λ p. nat_le p.0 address && nat_le (address + count) (p.0 + p.1) in
    let place : ℕ × ℕ → ℕ × ℕ = λ p. (p.0, address - p.0) in
    same_place address (find (holds_in_payload address count) (entries xs))
    ∙ ap (option_map place) (find-sized length test (entries xs) ∙ ap (find test) (sizes_alike length xs ys alike) ∙ sym (find-sized length test (entries ys)))
    ∙ sym (same_place address (find (holds_in_payload address count) (entries ys)))

-- ---- payloads are read where they were written

-- other bytes, as many, leave the lengths
lengths_alike : (blocks : NatMap (List ℕ)) (block : ℕ) (old new : List ℕ) → get blocks block ≡ Some old → length new ≡ length old → (q : ℕ) → option_map length (get (insert blocks block new) q) ≡ option_map length (get blocks q)
lengths_alike blocks block old new there e q = grind (arith, natmaps)

-- what was poked is read back, where its size is accepted and its range lies in a payload
pub payload_read : (s : OwnState) (address block offset : ℕ) (bytes : List ℕ) → count_refusal (length bytes) ≡ None → found s address (length bytes) ≡ Some (InPayload block offset) →
    (script_step (Peek address (length bytes)) (script_step (Poke address bytes) s).next).reply ≡ Bytes bytes
payload_read s address block offset bytes some at =
    let fits = payload_fits s address (length bytes) block offset at in
    let old = fits.0 in
    let new = with_part old offset bytes in
    let next : OwnState = (payload_poked block offset bytes (Some old) s).next in
    let parts = payload_parts (resolved s.regions address (length bytes)) (block_found s.sliced address (length bytes)) (block_found s.heap.payloads address (length bytes)) block offset at in
    let still = block_found_alike next.sliced s.sliced (lengths_alike s.sliced block old new fits.1 (length-with_part old offset bytes)) address (length bytes) ∙ parts.1 in
    ap (λ o. (script_step (Peek address (length bytes)) o.next).reply) (pokes_payload s address block offset bytes old some at fits.1)
    ∙ ap (λ o. o.reply) (peeks_payload next address (length bytes) block offset new some (found_payload next address (length bytes) (block, offset) parts.0 still)
    (get-insert_same s.sliced block new block refl))
    ∙ ap (λ read. Bytes read) (slice_range-with_part old offset bytes fits.3)

-- so it is in a payload of the heap
pub block_read : (s : OwnState) (address block offset : ℕ) (bytes : List ℕ) → count_refusal (length bytes) ≡ None → found s address (length bytes) ≡ Some (InBlock block offset) →
    (script_step (Peek address (length bytes)) (script_step (Poke address bytes) s).next).reply ≡ Bytes bytes
block_read s address block offset bytes some at =
    let fits = block_fits s address (length bytes) block offset at in
    let old = fits.0 in
    let new = with_part old offset bytes in
    let next : OwnState = (block_poked block offset bytes (Some old) s).next in
    let parts = block_parts (resolved s.regions address (length bytes)) (block_found s.sliced address (length bytes)) (block_found s.heap.payloads address (length bytes)) block offset at in
    let still = block_found_alike next.heap.payloads s.heap.payloads (lengths_alike s.heap.payloads block old new fits.1 (length-with_part old offset bytes)) address (length bytes) ∙ parts.2 in
    ap (λ o. (script_step (Peek address (length bytes)) o.next).reply) (pokes_block s address block offset bytes old some at fits.1)
    ∙ ap (λ o. o.reply) (peeks_block next address (length bytes) block offset new some (found_block next address (length bytes) (Some (block, offset)) parts.0 parts.1 still)
    (get-insert_same s.heap.payloads block new block refl))
    ∙ ap (λ read. Bytes read) (slice_range-with_part old offset bytes fits.3)

-- ---- what was poked is read back, wherever it is found

-- whether a reply says that the call is done
abbrev is_done : Reply → Bool
is_done (Selected selector) = false
is_done (Attached address) = false
is_done (Bytes bytes) = false
is_done Done = true
is_done (Quotas account) = false
is_done (Reserved reserve) = false
is_done (Told text) = false
is_done (Refused refusal) = false

-- a refusal is no such reply
not_done : (refusal : Refusal) → ¬ (Refused refusal ≡ Done)
not_done refusal e = true≢false (sym (ap is_done e))

-- a range that is found in a dataspace lies in a region
pub region_parts : (o p q : Option (ℕ × ℕ)) (selector offset : ℕ) → option_or (option_map in_dataspace o) (option_or (option_map in_payload p) (option_map in_block q)) ≡ Some (InDataspace selector offset) → o ≡ Some (selector, offset)
region_parts (Some d) p q selector offset is = grind (arith, nat_tests, natmaps, same_Some)
region_parts None None None selector offset is = absurd (none-some (InDataspace selector offset) is)
region_parts None None (Some b) selector offset is = absurd (cc)
region_parts None (Some q) b selector offset is = absurd (cc)

-- what was poked is read back where the poke was done, whatever its tests gave
read_by : (s : OwnState) (address : ℕ) (bytes : List ℕ) → IsSound s → (refusal : Option Refusal) (place : Option Place) → count_refusal (length bytes) ≡ refusal →
    found s address (length bytes) ≡ place → (unless refusal s (poked bytes place s)).reply ≡ Done → ReadsBack s address bytes (script_step (Poke address bytes) s).next
read_by s address bytes h (Some refusal) place counted at done = absurd (not_done refusal done)
read_by s address bytes h None None counted at done = absurd (not_done PageFault done)
read_by s address bytes h None (Some (InDataspace selector offset)) counted at done = grind (arith, nat_tests, natmaps, read_after, region_parts)
read_by s address bytes h None (Some (InPayload block offset)) counted at done = payload_read s address block offset bytes counted at
read_by s address bytes h None (Some (InBlock block offset)) counted at done = block_read s address block offset bytes counted at

-- what was poked is what a peek tells
pub poke_read : (s : OwnState) (address : ℕ) (bytes : List ℕ) → IsSound s → (script_step (Poke address bytes) s).reply ≡ Done →
    (script_step (Peek address (length bytes)) (script_step (Poke address bytes) s).next).reply ≡ Bytes bytes
poke_read s address bytes h done = search (rules, read_by)

-- ---- payloads lie apart

-- ranges of which each starts before the other ends overlap
both_lt : (a b p q : ℕ) → a < b + q * 4096 → b < a + p * 4096 → overlap a p b q ≡ true
both_lt a b p q first second = grind (arith, nat_tests)

-- between blocks that lie apart is room for the header of the later one
between : (a b p q x y : ℕ) → overlap a p b q ≡ false → 32 + x ≡ p * 4096 → 32 + y ≡ q * 4096 → (a + 32 + x + 32 ≤ b + 32) ⊎ (b + 32 + y + 32 ≤ a + 32)
between a b p q x y apart first second = search (rules, cases_lt, true≢false, both_lt)

module _ (s : OwnState) (h : IsSound s) where
  -- a payload has room for its header before it, and a range there
  module _ (block : ℕ) (payload : List ℕ) (there : get s.sliced block ≡ Some payload) where
    -- a header before the payload
    abbrev start : ℕ
    start = block - sliced_header

    -- back from there is the payload
    back : start + sliced_header ≡ block
    back = omega (arith, (h.blocks block payload there).header)

    -- the block's range
    pub own_range : get (heap_ranges s) start ≡ Some (range_of payload)
    own_range = search (rules, get-joined_first, range_of, range_at, back)

    -- a block's range is that of a sliced block
    pub range_of_sliced : get (ranges_of_blocks s.sliced) start ≡ Some (range_of payload)
    range_of_sliced = range_at s.sliced start payload (subst (λ k. get s.sliced k ≡ Some payload) (sym back) there)

    -- it lies within the heap window
    pub payload_within : (heap_low + sliced_header ≤ block) × (block + length payload ≤ heap_high largest_machine)
    payload_within = grind (arith, nat_tests, natmaps, range_of, own_range, back)

  -- two payloads lie apart, with room for the header of the later one
  pub payloads_apart : (a b : ℕ) (x y : List ℕ) → get s.sliced a ≡ Some x → get s.sliced b ≡ Some y → a ≢ b → (a + length x + sliced_header ≤ b) ⊎ (b + length y + sliced_header ≤ a)
  payloads_apart a b x y first second differ =
      let from = (h.blocks a x first).header in
      let to = (h.blocks b y second).header in
      let other : a - sliced_header ≢ b - sliced_header = λ e. differ (omega arith) in
      let apart = h.heap.apart (a - sliced_header) (b - sliced_header) (range_of x) (range_of y) (own_range a x first) (own_range b y second) other in
      elim (between (a - sliced_header) (b - sliced_header) (block_pages x) (block_pages y) (length x) (length y) apart (h.blocks a x first).whole (h.blocks b y second).whole) [
        | inl before ↦ inl (omega arith)
        | inr after ↦ inr (omega arith)
      ]

  -- a range of some bytes lies in one payload at most
  one_payload : (address count a b : ℕ) (x y : List ℕ) → 0 < count → get s.sliced a ≡ Some x → get s.sliced b ≡ Some y →
      b ≤ address → address + count ≤ b + length y → holds_in_payload address count (a, x) ≡ true → a ≡ b
  one_payload address count a b x y some first second from to holds = search (rules, cases_eq, payload_tests, payloads_apart)

  -- no region holds a range above the user window
  pub above_user : (address count : ℕ) → heap_low ≤ address → 0 < count → resolved s.regions address count ≡ None
  above_user address count high some = search (rules, resolved_facts)

  module _ (address count block : ℕ) (payload : List ℕ) (there : get s.sliced block ≡ Some payload) (some : 0 < count) (from : block ≤ address) (to : address + count ≤ block + length payload) where
    -- the range lies above the user window
    high : heap_low ≤ address
    high = omega (arith, (payload_within block payload there).0)

    -- each range of some bytes within a payload is found there
    pub payload_is_found : found s address count ≡ Some (InPayload block (address - block))
    payload_is_found = search (rules, found_payload, above_user, high, finds_in_map, payload_holds, one_payload)

    -- no payload of the heap holds it
    pub not_in_heap : (k : ℕ) (w : List ℕ) → get s.heap.payloads k ≡ Some w → ¬ (holds_in_payload address count (k, w) ≡ true)
    not_in_heap k w is holds =
        let own = own_range block payload there in
        let found = payload_within_range (heap_high largest_machine) s.heap h.heap_parts (heap_lies s h) k w is in
        let start' = found.0 in
        let within = found.1 in
        let apart = h.heap.apart (block - sliced_header) start' (range_of payload) within.range own (heap_range s h start' within.range within.there)
        (λ same. none-some within.range (sym (h.starts start' (ap is_some (ap (get (ranges_of_blocks s.sliced)) (sym same) ∙ range_of_sliced block payload there))) ∙ within.there)) in
        let tests = payload_tests address count k (length w) holds in
        not_both (block - sliced_header) (block_pages payload) start' within.range.pages address apart
        (omega (arith, from)) (omega (arith, to, some, (h.blocks block payload there).whole, (h.blocks block payload there).header)) (omega (arith, within.from, tests.0)) (omega (arith, within.to, tests.1, some))

    -- once the block is gone, nothing is
    pub payload_is_gone : found (script_step (Sdel block) s).next address count ≡ None
    payload_is_gone = search (rules, found_block, above_user, high, finds_none_in_map, false_from_ne_true, one_payload, before_remove, none-some, get-remove_same, not_in_heap)
