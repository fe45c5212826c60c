-- Calls keep an own state sound: each region is of bytes that a selector names, and lies apart from the others.
use Rattle.std.proofs.Common.{◌≡◌, ◌≢◌, ℕ, ◌+◌, ◌-◌, ◌*◌, ◌/◌, ◌<◌, ◌≤◌, true, false, eqb, List, length, nat_le, Some, refl, sym, ap, subst, ◌∙◌, eqb-true, nat_cmp, arith, is_some, Bool, rules}
use Rattle.std.proofs.lemmas.Bool.Decides.{nat_tests}
use Rattle.std.proofs.lemmas.Option.{none-some, same_Some}
use Rattle.std.specs.Prelude.{Option, None}
use Rattle.std.specs.Option.{option_and_then}
use Rattle.std.specs.FinMap.{get, insert, remove, empty, len, len-empty}
use Rattle.trade_base.specs.declared.refusal.Refusal.TheVariants.{InvalidCap, TooManyRegions}
use Rattle.trade_base.specs.Page.{page_of}
use Rattle.own_model.proofs.NatMapLemmas.{get-empty, get-remove_other, before_remove, apart_from_free, value_at, IsSome-at, get-insert_other, get-insert_same, each_after_insert}
use Rattle.own_model.proofs.NewSelector.{new_selector_free}
use Rattle.own_model.proofs.RegionLemmas.{place, left_without, len-without, free_place}
use Rattle.own_model.specs.Account.{Account, credited, parted_with, alloc_refusal}
use Rattle.own_model.specs.Donation.{raised}
use Rattle.own_model.specs.Amounts.{Amounts}
use Rattle.own_model.specs.Reserve.{no_reserve}
use Rattle.own_model.specs.Session.{Session, new_session, upgraded, served}
use Rattle.own_model.specs.BufferTheorems.{FitsBuffer}
use Rattle.own_model.proofs.BufferKeptLemmas.{none_fits}
use Rattle.own_model.proofs.ServiceLemmas.{serve_fits}
use Rattle.own_model.proofs.LentLemmas.{buffer_there, lent_still}
use Rattle.own_model.proofs.StepLemmas.{KeptBySessions, KeptByEffects, KeptByReserve, valid_some}
use Rattle.own_model.proofs.StepTableLemmas.{step_keeps, run_keeps}
use Rattle.own_model.proofs.Totals.{len-insert_new, len-remove_le}
use Rattle.own_model.proofs.StepUseLemmas.{length-zeros, length-with_part, block_size-new}
use Rattle.own_model.specs.Call.{Call}
use Rattle.own_model.specs.Call.Call.{Free, Attach, AttachAt}
use Rattle.own_model.specs.NatMap.{NatMap, joined}
use Rattle.own_model.specs.OwnState.{OwnState, Object, NamedBuffer, zeros, new_selector, pages_in, with_part, object_with, named_bytes, heap_ranges, buffer_of, bytes_of_buffer}
use Rattle.own_model.specs.OwnState.Object.{Dataspace, RpcObject, OpenSession, Buffer}
use Rattle.own_model.specs.OwnStep.{exited_state, own_step, own_run, script_step, refused, allocated, with_region, attached_first, attached_at, region_detached, poked_at, payload_poked, sliced_at, sliced_freed, own_heap_gap, cap_allocated, cap_freed, with_buffer}
use Rattle.own_model.specs.Region.{Region, user_low, user_high, most_regions, can_attach, IsPlace, without}
use Rattle.own_model.specs.Sound.{IsPages, NamesBytes, LieApart, AreMapped, IsBlock, KeysApart, IsSound}
use Rattle.own_model.specs.OwnHeap.{ranges_of_heap, no_heap}
use Rattle.own_model.specs.HeapWindow.{heap_low, heap_high, largest_machine}
use Rattle.own_model.specs.Sliced.{sliced_header, sliced_size, block_pages, ranges_of_blocks}
use Rattle.own_model.proofs.RegionApartLemmas.{LieApart-empty, LieApart-fewer, LieApart-insert}
use Rattle.own_model.proofs.HeapRangeLemmas.{range_of, get-ranges, ranges-insert, ranges-remove, ranges-alike, gap_place, gap_open, new_page}
use Rattle.own_model.proofs.NatMapJoinedLemmas.{joined-insert_first, joined_before, KeysApart-insert_first}
use Rattle.own_model.proofs.HeapOwnLemmas.{ranges-no_heap, joined-no_heap}
use Rattle.own_model.proofs.HeapSoundLemmas.{no_heap_is, sound_block_poked, sound_taken, sound_grown, sound_large, sound_given, sound_large_given}
use Rattle.own_model.specs.StartList.{Entry, StartEntry, start_state}
use Rattle.std.proofs.lemmas.Bool.{eqb-false}

-- ---- dataspaces

-- a size above 0 rounds up to whole pages, at least one
page_count : (n : ℕ) → 0 < n → (1 ≤ page_of n / 4096) × (page_of n ≡ page_of n / 4096 * 4096)
page_count n some = omega arith

-- as many bytes as a size above 0 rounds up to are pages
pages_of_length : (bytes : List ℕ) (n : ℕ) → length bytes ≡ page_of n → 0 < n → IsPages bytes
pages_of_length bytes n e some = omega (arith, page_count n some)

-- what a selector names is whole pages, if it has bytes
abbrev EachWhole : NatMap Object → Type 0
EachWhole selectors = (selector : ℕ) (bytes : List ℕ) → named_bytes (get selectors selector) ≡ Some bytes → IsPages bytes

-- so is an object
abbrev ObjectWhole : Object → Type 0
ObjectWhole object = (bytes : List ℕ) → named_bytes (Some object) ≡ Some bytes → IsPages bytes

-- one that has no bytes is
bytes_none : (object : Object) → named_bytes (Some object) ≡ None → ObjectWhole object
bytes_none object none bytes is = absurd (none-some bytes (sym none ∙ is))

-- what has bytes is there
has_bytes : (o : Option Object) (bytes : List ℕ) → named_bytes o ≡ Some bytes → (object : Object) × (o ≡ Some object) × (named_bytes (Some object) ≡ Some bytes)
has_bytes None bytes is = absurd (none-some bytes is)
has_bytes (Some object) bytes is = (object, refl, is)

-- one more object that is leaves each whole pages
whole_after : (selectors : NatMap Object) (k : ℕ) (object : Object) → EachWhole selectors → ObjectWhole object → EachWhole (insert selectors k object)
whole_after selectors k object each here selector bytes is =
    let at = has_bytes (get (insert selectors k object) selector) bytes is in
    each_after_insert selectors k object (λ q w. ObjectWhole w) (λ q w there b e. each q b (ap named_bytes there ∙ e)) here selector at.0 at.1 bytes at.2

-- and so does one that goes
whole_left : (selectors : NatMap Object) (k : ℕ) → EachWhole selectors → EachWhole (remove selectors k)
whole_left selectors k each selector bytes is =
    let at = has_bytes (get (remove selectors k) selector) bytes is in
    each selector bytes (ap named_bytes (before_remove selectors k selector at.0 at.1) ∙ at.2)

-- ---- names

-- a region whose selector's bytes stay is named
named_same : (xs ys : NatMap Object) (region : Region) (h : NamesBytes xs region) → get ys region.of ≡ get xs region.of → NamesBytes ys region
named_same xs ys region h e = record { bytes = h.bytes; there = ap named_bytes e ∙ h.there; pages = h.pages }

-- so it is where a free selector is filled
named_new : (selectors : NatMap Object) (k : ℕ) (object : Object) (region : Region) → get selectors k ≡ None → NamesBytes selectors region → NamesBytes (insert selectors k object) region
named_new selectors k object region free h =
    let at = has_bytes (get selectors region.of) h.bytes h.there in
    named_same selectors (insert selectors k object) region h
    (get-insert_other selectors k object region.of (apart_from_free selectors k region.of free (IsSome-at selectors region.of at.0 at.1)))

-- and where another goes
named_left : (selectors : NatMap Object) (k : ℕ) (region : Region) → region.of ≢ k → NamesBytes selectors region → NamesBytes (remove selectors k) region
named_left selectors k region other h = named_same selectors (remove selectors k) region h (get-remove_other selectors k region.of other)

-- bytes put over an object's are put over the bytes it has
bytes_poked : (object : Object) (offset : ℕ) (part bytes : List ℕ) → named_bytes (Some object) ≡ Some bytes → named_bytes (Some (object_with object offset part)) ≡ Some (with_part bytes offset part)
bytes_poked (Dataspace old) offset part bytes is = ap (λ b. Some (with_part b offset part)) (same_Some old bytes is)
bytes_poked RpcObject offset part bytes is = absurd (none-some bytes is)
bytes_poked (OpenSession session) offset part bytes is = absurd (none-some bytes is)
bytes_poked (Buffer session old) offset part bytes is = ap (λ b. Some (with_part b offset part)) (same_Some old bytes is)

-- and where bytes are put over others
named_poked : (selectors : NatMap Object) (k offset : ℕ) (part : List ℕ) (object : Object) (region : Region) → get selectors k ≡ Some object →
    NamesBytes selectors region → NamesBytes (insert selectors k (object_with object offset part)) region
named_poked selectors k offset part object region there h =
    elim (eqb region.of k) as (λ b. eqb region.of k ≡ b → NamesBytes (insert selectors k (object_with object offset part)) region) [
      | true ↦ λ same.
          let at : region.of ≡ k = eqb-true region.of k same in
          let is : named_bytes (Some object) ≡ Some h.bytes = ap named_bytes (sym there ∙ ap (get selectors) (sym at)) ∙ h.there in
          record {
            bytes = with_part h.bytes offset part;
            there = ap named_bytes (get-insert_same selectors k (object_with object offset part) region.of at) ∙ bytes_poked object offset part h.bytes is;
            pages = h.pages ∙ ap (λ l. l / 4096) (sym (length-with_part h.bytes offset part));
          }
      | false ↦ λ other. named_same selectors _ region h (get-insert_other selectors k (object_with object offset part) region.of (eqb-false region.of k other))
    ] refl

-- as many bytes as whole pages are whole pages
pages_alike : (old new : List ℕ) → length new ≡ length old → IsPages old → IsPages new
pages_alike old new e h = record { some = subst (λ l. 1 ≤ l / 4096) (sym e) h.some; whole = subst (λ l. l ≡ l / 4096 * 4096) (sym e) h.whole }

-- so bytes put over others leave whole pages whole
pages_poked : (object : Object) (offset : ℕ) (part : List ℕ) → ObjectWhole object → ObjectWhole (object_with object offset part)
pages_poked (Dataspace old) offset part h = λ bytes is.
    subst IsPages (same_Some (with_part old offset part) bytes is) (pages_alike old (with_part old offset part) (length-with_part old offset part) (h old refl))
pages_poked RpcObject offset part h = bytes_none RpcObject refl
pages_poked (OpenSession session) offset part h = bytes_none (OpenSession session) refl
pages_poked (Buffer session old) offset part h = λ bytes is.
    subst IsPages (same_Some (with_part old offset part) bytes is) (pages_alike old (with_part old offset part) (length-with_part old offset part) (h old refl))

-- ---- what each effect keeps

-- regions stay mapped where all bytes that were named still are
mapped_named : (xs ys : NatMap Object) (regions : NatMap Region) → ((region : Region) → NamesBytes xs region → NamesBytes ys region) → AreMapped xs regions → AreMapped ys regions
mapped_named xs ys regions still h = record { named = λ start region is. still region (h.named start region is); lie = h.lie; few = h.few }

-- and so do some of them
mapped_fewer : (xs ys : NatMap Object) (all some : NatMap Region) →
    ((start : ℕ) (region : Region) → get some start ≡ Some region → (get all start ≡ Some region) × (NamesBytes xs region → NamesBytes ys region)) →
    len some ≤ len all → AreMapped xs all → AreMapped ys some
mapped_fewer xs ys all some left fewer h = record {
  named = λ start region is. let was = left start region is in was.1 (h.named start region was.0);
  lie = LieApart-fewer user_low user_high all some (λ start region is. (left start region is).0) h.lie;
  few = omega (arith, h.few, fewer);
}

-- a new dataspace keeps an own state sound
sound_allocated : (n : ℕ) (s : OwnState) → IsSound s → alloc_refusal n s.account ≡ None → IsSound (allocated n s).next
sound_allocated n s h accepted =
    let key = new_selector s.selectors in
    let space = Dataspace (zeros (page_of n)) in
    record {
      whole = whole_after s.selectors key space h.whole
          (λ bytes is. subst IsPages (same_Some (zeros (page_of n)) bytes is) (pages_of_length (zeros (page_of n)) n (length-zeros (page_of n)) (valid_some n s.account accepted)));
      mapped = mapped_named s.selectors (insert s.selectors key space) s.regions (λ region. named_new s.selectors key space region (new_selector_free s.selectors)) h.mapped;
      blocks = h.blocks;
      heap_parts = h.heap_parts;
      starts = h.starts;
      heap = h.heap;
    }

-- so does a new RPC object
sound_cap_allocated : (s : OwnState) → IsSound s → IsSound (cap_allocated s).next
sound_cap_allocated s h =
    let key = new_selector s.selectors in
    record {
      whole = whole_after s.selectors key RpcObject h.whole (bytes_none RpcObject refl);
      mapped = mapped_named s.selectors (insert s.selectors key RpcObject) s.regions (λ region. named_new s.selectors key RpcObject region (new_selector_free s.selectors)) h.mapped;
      blocks = h.blocks;
      heap_parts = h.heap_parts;
      starts = h.starts;
      heap = h.heap;
    }

-- so does a selector that goes, with the regions of what it named
sound_dropped : (selector : ℕ) (account : Account) (s : OwnState) → IsSound s → IsSound (record s { account = account; selectors = remove s.selectors selector; regions = without selector s.regions })
sound_dropped selector account s h = record {
  whole = whole_left s.selectors selector h.whole;
  mapped = mapped_fewer s.selectors (remove s.selectors selector) s.regions (without selector s.regions)
      (λ start region is. let left = left_without selector s.regions start region is in (left.0, named_left s.selectors selector region left.1))
      (len-without selector s.regions) h.mapped;
  blocks = h.blocks;
  heap_parts = h.heap_parts;
  starts = h.starts;
  heap = h.heap;
}

-- what has no bytes has no region
not_named : (selectors : NatMap Object) (k : ℕ) (object : Object) (region : Region) → get selectors k ≡ Some object → named_bytes (Some object) ≡ None →
    NamesBytes selectors region → region.of ≢ k
not_named selectors k object region there none h at =
    none-some h.bytes (sym none ∙ ap named_bytes (sym there ∙ ap (get selectors) (sym at)) ∙ h.there)

-- an RPC object that is freed keeps an own state sound
sound_cap_freed : (selector : ℕ) (s : OwnState) → get s.selectors selector ≡ Some RpcObject → IsSound s → IsSound (cap_freed selector (Some RpcObject) s).next
sound_cap_freed selector s there h = record {
  whole = whole_left s.selectors selector h.whole;
  mapped = mapped_named s.selectors (remove s.selectors selector) s.regions
      (λ region before. named_left s.selectors selector region (not_named s.selectors selector RpcObject region there refl before) before) h.mapped;
  blocks = h.blocks;
  heap_parts = h.heap_parts;
  starts = h.starts;
  heap = h.heap;
}

-- a region that is detached keeps an own state sound
sound_detached : (address : ℕ) (s : OwnState) → IsSound s → IsSound (region_detached address s).next
sound_detached address s h = search (rules, mapped_fewer, before_remove, len-remove_le)

-- so do bytes that are poked
sound_poked : (selector offset : ℕ) (bytes : List ℕ) (object : Object) (s : OwnState) → get s.selectors selector ≡ Some object → IsSound s →
    IsSound (poked_at selector offset bytes (Some object) s).next
sound_poked selector offset bytes object s there h = record {
  whole = whole_after s.selectors selector (object_with object offset bytes) h.whole
      (pages_poked object offset bytes (λ b e. h.whole selector b (ap named_bytes there ∙ e)));
  mapped = mapped_named s.selectors (insert s.selectors selector (object_with object offset bytes)) s.regions
      (λ region. named_poked s.selectors selector offset bytes object region there) h.mapped;
  blocks = h.blocks;
  heap_parts = h.heap_parts;
  starts = h.starts;
  heap = h.heap;
}

-- below the most there is room for one more
fewer : (most n : ℕ) → nat_le most n ≡ false → n + 1 ≤ most
fewer most n h = grind (arith, nat_tests)

-- a region more, where its pages can stand and there is room, keeps an own state sound
sound_attached : (selector address : ℕ) (bytes : List ℕ) (s : OwnState) → named_bytes (get s.selectors selector) ≡ Some bytes →
    can_attach user_low user_high s.regions (pages_in bytes) address ≡ true → nat_le most_regions (len s.regions) ≡ false →
    IsSound s → IsSound (with_region selector (pages_in bytes) address s).next
sound_attached selector address bytes s there can room h =
    let at = place user_low user_high s.regions (pages_in bytes) address can in
    let region : Region = record { of = selector; pages = pages_in bytes } in
    let some = (h.whole selector bytes there).some in
    let free = free_place user_low user_high s.regions (pages_in bytes) address some h.mapped.lie.some at in
    record {
      whole = h.whole;
      mapped = record {
        named = each_after_insert s.regions address region (λ start r. NamesBytes s.selectors r) h.mapped.named (record { bytes = bytes; there = there; pages = refl });
        lie = LieApart-insert user_low user_high s.regions address region some at h.mapped.lie;
        few = omega (arith, fewer most_regions (len s.regions) room, len-insert_new s.regions address region free);
      };
      blocks = h.blocks;
      heap_parts = h.heap_parts;
      starts = h.starts;
      heap = h.heap;
    }

-- ---- sliced blocks

-- as many bytes as page rounding gives are whole pages
whole_new : (n : ℕ) → sliced_size n ≡ page_of (sliced_size n) / 4096 * 4096
whole_new n = omega arith

-- as many whole pages as are asked for
pages_new : (n : ℕ) → page_of (sliced_size n) / 4096 ≡ sliced_size n / 4096
pages_new n = omega arith

-- a new block is whole pages
new_block : (n start : ℕ) → IsBlock (start + sliced_header) (zeros (sliced_size n - sliced_header))
new_block n start = search (rules, block_size-new, whole_new)

-- so is one with other bytes, as many
poked_block : (address : ℕ) (old new : List ℕ) → length new ≡ length old → IsBlock address old → IsBlock address new
poked_block address old new e h = search rules

-- a new sliced block keeps an own state sound
sound_sliced : (n start : ℕ) (s : OwnState) → own_heap_gap (sliced_size n) s ≡ Some start → IsSound s → IsSound (sliced_at n start s).next
sound_sliced n start s gap h =
    let payload = zeros (sliced_size n - sliced_header) in
    let pages : block_pages payload ≡ sliced_size n / 4096 = ap (λ size. page_of size / 4096) (block_size-new n) ∙ pages_new n in
    let at = subst (λ p. IsPlace heap_low (heap_high largest_machine) (heap_ranges s) p start) (sym pages) (gap_place s (sliced_size n) start gap) in
    let some = subst (λ p. 1 ≤ p) (sym pages) (new_page n) in
    record {
      whole = h.whole;
      mapped = h.mapped;
      blocks = each_after_insert s.sliced (start + sliced_header) payload IsBlock h.blocks (new_block n start);
      heap_parts = h.heap_parts;
      starts = subst (λ m. KeysApart m (ranges_of_heap s.heap)) (sym (ranges-insert s.sliced start payload))
          (KeysApart-insert_first (ranges_of_blocks s.sliced) (ranges_of_heap s.heap) start (range_of payload) h.starts (gap_open s (sliced_size n) start gap (new_page n)).1);
      heap = subst (LieApart heap_low (heap_high largest_machine)) (sym (ap (λ m. joined m (ranges_of_heap s.heap)) (ranges-insert s.sliced start payload) ∙ joined-insert_first (ranges_of_blocks s.sliced) (ranges_of_heap s.heap) start (range_of payload)))
          (LieApart-insert heap_low (heap_high largest_machine) (heap_ranges s) start (range_of payload) some at h.heap);
    }

-- so does one that is freed
sound_unsliced : (address : ℕ) (payload : List ℕ) (s : OwnState) → IsSound s → IsSound (sliced_freed address (Some payload) s).next
sound_unsliced address payload s h = record {
  whole = h.whole;
  mapped = h.mapped;
  blocks = λ q other is. h.blocks q other (before_remove s.sliced address q other is);
  heap_parts = h.heap_parts;
  starts = λ q some. let at = value_at (ranges_of_blocks (remove s.sliced address)) q some in h.starts q (ap is_some (ranges-remove s.sliced address q at.0 at.1));
  heap = LieApart-fewer heap_low (heap_high largest_machine) (heap_ranges s) (joined (ranges_of_blocks (remove s.sliced address)) (ranges_of_heap s.heap))
      (joined_before (ranges_of_blocks s.sliced) (ranges_of_heap s.heap) (ranges_of_blocks (remove s.sliced address)) (ranges_of_heap s.heap) h.starts (ranges-remove s.sliced address) (λ q r there. there)) h.heap;
}

-- and bytes put over a payload's
sound_payload_poked : (address offset : ℕ) (bytes payload : List ℕ) (s : OwnState) → get s.sliced address ≡ Some payload → IsSound s →
    IsSound (payload_poked address offset bytes (Some payload) s).next
sound_payload_poked address offset bytes payload s there h =
    let new = with_part payload offset bytes in
    let size = length-with_part payload offset bytes in
    record {
      whole = h.whole;
      mapped = h.mapped;
      blocks = each_after_insert s.sliced address new IsBlock h.blocks (poked_block address payload new size (h.blocks address payload there));
      heap_parts = h.heap_parts;
      starts = subst (λ m. KeysApart m (ranges_of_heap s.heap)) (sym (ranges-alike s.sliced address payload new there size)) h.starts;
      heap = subst (LieApart heap_low (heap_high largest_machine)) (sym (ap (λ m. joined m (ranges_of_heap s.heap)) (ranges-alike s.sliced address payload new there size))) h.heap;
    }

-- so nothing that a call can do makes it unsound
effects_sound : (s : OwnState) → IsSound s → KeptByEffects IsSound s
effects_sound s h = record {
  allocates = λ n accepted. sound_allocated n s h accepted;
  frees = λ selector bytes there. sound_dropped selector (credited s.account (length bytes) 1) s h;
  attaches = λ selector address bytes there can room. sound_attached selector address bytes s there can room h;
  detaches = λ address. sound_detached address s h;
  pokes = λ selector offset bytes object there. sound_poked selector offset bytes object s there h;
  pokes_payload = λ address offset bytes payload there. sound_payload_poked address offset bytes payload s there h;
  pokes_block = λ address offset bytes payload there. sound_block_poked address offset bytes payload s there h;
  takes = λ n hole best. sound_taken n hole s best h;
  grows = λ n start accepted gap. sound_grown n start s accepted gap h;
  takes_large = λ n start large accepted gap. sound_large n start s large accepted gap h;
  gives = λ address payload there small. sound_given address payload s there small h;
  gives_large = λ address bytes there. sound_large_given address bytes s there h;
  slices = λ n start accepted gap. sound_sliced n start s gap h;
  unslices = λ address payload there. sound_unsliced address payload s h;
  allocates_cap = λ accepted. sound_cap_allocated s h;
  frees_cap = λ selector there. sound_cap_freed selector s there h;
}

-- ---- sessions

-- other selectors keep an own state sound where what has bytes is whole, and all that were named still are
sound_named : (s : OwnState) (selectors : NatMap Object) (account : Account) → EachWhole selectors → ((region : Region) → NamesBytes s.selectors region → NamesBytes selectors region) →
    IsSound s → IsSound (record s { account = account; selectors = selectors })
sound_named s selectors account whole still h = search (rules, mapped_named)

-- a session in place of one
sound_session : (s : OwnState) (selector : ℕ) (old new : Session) (account : Account) → get s.selectors selector ≡ Some (OpenSession old) → IsSound s →
    IsSound (record s { account = account; selectors = insert s.selectors selector (OpenSession new) })
sound_session s selector old new account there h =
    sound_named s (insert s.selectors selector (OpenSession new)) account (whole_after s.selectors selector (OpenSession new) h.whole (bytes_none (OpenSession new) refl)) (λ region before.
    named_same s.selectors (insert s.selectors selector (OpenSession new)) region before
    (get-insert_other s.selectors selector (OpenSession new) region.of (not_named s.selectors selector (OpenSession old) region there refl before))) h

-- a region's selector still names bytes where it has others, as many
named_resized : (selectors : NatMap Object) (k : ℕ) (new : Object) (old bytes : List ℕ) (region : Region) → named_bytes (get selectors k) ≡ Some old → named_bytes (Some new) ≡ Some bytes → length bytes ≡ length old →
    NamesBytes selectors region → NamesBytes (insert selectors k new) region
named_resized selectors k new old bytes region was is long h =
    elim (eqb region.of k) as (λ b. eqb region.of k ≡ b → NamesBytes (insert selectors k new) region) [
      | true ↦ λ same.
          let at : region.of ≡ k = eqb-true region.of k same in
          let before : h.bytes ≡ old = same_Some h.bytes old (sym h.there ∙ ap (λ j. named_bytes (get selectors j)) at ∙ was) in
          record {
            bytes = bytes;
            there = ap named_bytes (get-insert_same selectors k new region.of at) ∙ is;
            pages = h.pages ∙ ap pages_in before ∙ ap (λ l. l / 4096) (sym long);
          }
      | false ↦ λ other. named_same selectors _ region h (get-insert_other selectors k new region.of (eqb-false region.of k other))
    ] refl

-- a buffer that is made is whole pages, and one that stays is as long as it was
sound_lent : (s : OwnState) (q : ℕ) (old : Option NamedBuffer) (new : Option (List ℕ)) → buffer_of q s.selectors ≡ old → FitsBuffer (bytes_of_buffer old) new → IsSound s → IsSound (with_buffer q old new s)
sound_lent s q None None found fits h = h
sound_lent s q None (Some bytes) found fits h =
    let key = new_selector s.selectors in
    let size = fits.1.1 in
    sound_named s (insert s.selectors key (Buffer q bytes)) s.account
    (whole_after s.selectors key (Buffer q bytes) h.whole (λ b is. subst IsPages (same_Some bytes b is) (record { some = omega (arith, fits.0, size); whole = omega (arith, size) })))
    (λ region. named_new s.selectors key (Buffer q bytes) region (new_selector_free s.selectors)) h
sound_lent s q (Some b) (Some bytes) found fits h =
    let there = ap named_bytes (buffer_there q s.selectors b found) in
    sound_named s (insert s.selectors b.selector (Buffer q bytes)) s.account
    (whole_after s.selectors b.selector (Buffer q bytes) h.whole (λ c is. subst IsPages (same_Some bytes c is) (pages_alike b.bytes bytes fits (h.whole b.selector b.bytes there))))
    (λ region. named_resized s.selectors b.selector (Buffer q bytes) b.bytes bytes region there refl fits) h
sound_lent s q (Some b) None found fits h = sound_dropped b.selector s.account s h

-- nor do calls of sessions
pub sessions_sound : (s : OwnState) → IsSound s → KeptBySessions IsSound s
sessions_sound s h = record {
  opens = λ wish accepted.
      let key = new_selector s.selectors in
      let session = OpenSession (new_session wish) in
      sound_named s (insert s.selectors key session) (parted_with s.account wish.ram wish.caps) (whole_after s.selectors key session h.whole (bytes_none session refl))
      (λ region. named_new s.selectors key session region (new_selector_free s.selectors)) h;
  upgrades = λ selector session more there accepted. sound_session s selector session (upgraded session more.ram more.caps) (parted_with s.account more.ram more.caps) there h;
  serves = λ selector session request there.
      let buffer = buffer_of selector s.selectors in
      let o = served (bytes_of_buffer buffer) session request in
      sound_session (with_buffer selector buffer o.buffer s) selector session o.session s.account
      (lent_still selector s.selectors buffer o.buffer refl selector (OpenSession session) there refl)
      (sound_lent s selector buffer o.buffer refl (serve_fits session.state (bytes_of_buffer buffer) session request) h);
  closes = λ selector session there.
      let buffer = buffer_of selector s.selectors in
      let t = with_buffer selector buffer None s in
      let still = lent_still selector s.selectors buffer None refl selector (OpenSession session) there refl in
      let sound = sound_lent s selector buffer None refl (none_fits (bytes_of_buffer buffer)) h in
      sound_named t (remove t.selectors selector) (raised s.account session.account.ram_limit session.account.caps_limit)
      (whole_left t.selectors selector sound.whole)
      (λ region before. named_left t.selectors selector region (not_named t.selectors selector (OpenSession session) region still refl before) before) sound;
}

-- limits that are moved leave all that
reserve_sound : (s : OwnState) → IsSound s → KeptByReserve IsSound s
reserve_sound s h = search rules

-- no blocks stand nowhere
no_ranges : (q : ℕ) → get (ranges_of_blocks empty) q ≡ get (empty {R = nat_cmp}) q
no_ranges q = get-ranges empty q ∙ ap (option_and_then (λ payload. Some (range_of payload))) (get-empty (q + sliced_header)) ∙ sym (get-empty q)

-- who has nothing but an account and a reserve
none_sound : (account : Account) (reserve : Amounts) (gone : Bool) → IsSound (record { account = account; reserve = reserve; selectors = empty; regions = empty; heap = no_heap; sliced = empty; gone = gone })
none_sound account reserve gone = record {
  whole = λ selector bytes is. absurd (none-some bytes (sym (ap named_bytes (get-empty selector)) ∙ is));
  mapped = record {
    named = λ at region is. absurd (none-some region (sym (get-empty at) ∙ is));
    lie = LieApart-empty user_low user_high empty (λ q. refl);
    few = omega (arith, len-empty nat_cmp Region);
  };
  blocks = λ at payload is. absurd (none-some payload (sym (get-empty at) ∙ is));
  heap_parts = no_heap_is;
  starts = λ q some. ap (λ m. get m q) ranges-no_heap ∙ get-empty q;
  heap = subst (LieApart heap_low (heap_high largest_machine)) (sym (joined-no_heap (ranges_of_blocks empty))) (LieApart-empty heap_low (heap_high largest_machine) (ranges_of_blocks empty) no_ranges);
}

-- as who starts, and who has exited
pub start_sound : (start : StartEntry) → IsSound (start_state start)
start_sound start = none_sound (start_state start).account (start_state start).reserve false

pub gone_sound : IsSound exited_state
gone_sound = none_sound exited_state.account no_reserve true

-- a call keeps it so
pub step_sound : (entry : Entry) (call : Call) (s : OwnState) → IsSound s → IsSound (own_step entry call s).next
step_sound entry call s h = step_keeps IsSound s h (effects_sound s h) (reserve_sound s h) (sessions_sound s h) gone_sound entry call

-- and so do calls
pub run_sound : (entry : Entry) (calls : List Call) (s : OwnState) → IsSound s → IsSound (own_run entry calls s)
run_sound = run_keeps IsSound effects_sound reserve_sound sessions_sound gone_sound

-- what is freed has no region left
pub freed_has_none : (s : OwnState) (selector : ℕ) (bytes : List ℕ) → get s.selectors selector ≡ Some (Dataspace bytes) →
    (start : ℕ) (region : Region) → get (script_step (Free selector) s).next.regions start ≡ Some region → region.of ≢ selector
freed_has_none s selector bytes there start region is = search (rules, left_without)

-- a number that is the most reaches it
full : (most n : ℕ) → n ≡ most → nat_le most n ≡ true
full most n e = grind (arith, nat_tests)

-- a map with as many regions as there can be takes no more
pub full_refuses : (s : OwnState) (selector address : ℕ) (bytes : List ℕ) → named_bytes (get s.selectors selector) ≡ Some bytes → len s.regions ≡ most_regions →
    (script_step (Attach selector) s ≡ refused s TooManyRegions) × (script_step (AttachAt selector address) s ≡ refused s TooManyRegions)
full_refuses s selector address bytes there count = grind (arith, nat_tests, full)

-- what has no bytes can't be attached, even to a map that is full
pub unnamed_refused : (s : OwnState) (selector address : ℕ) → named_bytes (get s.selectors selector) ≡ None →
    (script_step (Attach selector) s ≡ refused s InvalidCap) × (script_step (AttachAt selector address) s ≡ refused s InvalidCap)
unnamed_refused s selector address free = (ap (λ o. attached_first selector o s) free, ap (λ o. attached_at selector address o s) free)
