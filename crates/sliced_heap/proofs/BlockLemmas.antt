-- The blocks of a share whose headers are linked: their bytes, and which payload holds a range of addresses.
use Rattle.std.proofs.Common.{◌≡◌, ◌≤◌, ◌<◌, ◌+◌, ◌-◌, ◌*◌, ◌/◌, ℕ, true, List, drop, length, Some, refl, sym, ap, ◌∙◌, ⊎_elim, arith, rules}
use Rattle.std.proofs.lemmas.Bool.{cases_lt, false_from_ne_true}
use Rattle.std.proofs.lemmas.Bool.Decides.{nat_tests}
use Rattle.std.proofs.lemmas.List.{length-drop}
use Rattle.std.proofs.lemmas.Option.{none-some, same_Some}
use Rattle.std.specs.Prelude.{None}
use Rattle.std.specs.Option.{option_map, option_and_then}
use Rattle.std.specs.FinMap.{get}
use Rattle.trade_base.specs.Page.{page_of}
use Rattle.own_model.specs.Region.{Region}
use Rattle.own_model.specs.Sliced.{sliced_header as header, block_size, block_pages, block_found, holds_in_payload}
use Rattle.own_model.proofs.NatMapLemmas.{get-picked, and_then_from}
use Rattle.own_model.proofs.EntryLemmas.{finds_in_map, finds_none_in_map}
use Rattle.own_model.proofs.NatMapMovedLemmas.{get-moved_up, get-moved_up_below}
use Rattle.dataspace_core.specs.Share.{Share}
use Rattle.sliced_heap.specs.Sliced.{block_regions, payload_of, sliced_of, IsLinked}
use Rattle.sliced_heap.specs.Heap.{HoldsAddress, NoneHolds, HoldsRange}

-- a range that a payload holds lies within it
pub payload_test : (address count at size : ℕ) (payload : List ℕ) → length payload ≡ size → holds_in_payload address count (at, payload) ≡ true → (at ≤ address) × (address + count ≤ at + size)
payload_test address count at size payload long h = grind (arith, nat_tests)

-- a block of whole pages takes them
pub whole_pages : (payload : List ℕ) (pages : ℕ) → block_size payload ≡ pages * 4096 → block_pages payload ≡ pages
whole_pages payload pages whole = ap (λ n. page_of n / 4096) whole ∙ omega arith

module _ (S : Share) (first : ℕ) (linked : IsLinked S first) where
  -- a block's dataspace is in the share's part, as long as the region
  pub record IsWhole (s : ℕ) (r : Region) : Type 0 where
    pub bytes : List ℕ
    pub there : get S.part.spaces r.of ≡ Some bytes
    pub some : 1 ≤ r.pages
    pub whole : length bytes ≡ r.pages * 4096

  pub is_whole : (s : ℕ) (r : Region) → get (block_regions S) s ≡ Some r → IsWhole s r
  is_whole s r h =
      let was = linked.all s r h in
      let stands = linked.stands r.of was.0 in
      let pages : stands.pages ≡ r.pages = ap (λ (q : Region). q.pages) (same_Some _ r (sym stands.region ∙ ap (get (block_regions S)) was.1 ∙ h)) in
      let some = stands.some in
      let whole = stands.whole in
      record { bytes = stands.bytes; there = stands.there; some = omega (arith, pages, some); whole = whole ∙ ap (λ n. n * 4096) pages }

  -- its payload stands behind its header
  pub payload_at : (s : ℕ) → get (sliced_of S) (s + header) ≡ option_and_then (payload_of S.part.spaces) (get (block_regions S) s)
  unfolding sliced_of
  payload_at s = get-moved_up header _ s ∙ get-picked (payload_of S.part.spaces) (block_regions S) s

  pub payload_there : (s : ℕ) (r : Region) (bytes : List ℕ) → get (block_regions S) s ≡ Some r → get S.part.spaces r.of ≡ Some bytes → get (sliced_of S) (s + header) ≡ Some (drop header bytes)
  payload_there s r bytes h has = payload_at s ∙ ap (option_and_then (payload_of S.part.spaces)) h ∙ ap (option_map (drop header)) has

  -- no payload stands so low that no header fits before it
  pub none_low : (address : ℕ) → address < header → get (sliced_of S) address ≡ None
  unfolding sliced_of
  none_low address low = get-moved_up_below header _ address low

  -- each payload is a block's
  pub record IsOf (address : ℕ) (payload : List ℕ) : Type 0 where
    pub start : ℕ
    pub region : Region
    pub at : address ≡ start + header
    pub there : get (block_regions S) start ≡ Some region
    pub long : header + length payload ≡ region.pages * 4096

  pub is_of : (address : ℕ) (payload : List ℕ) → get (sliced_of S) address ≡ Some payload → IsOf address payload
  is_of address payload h = ⊎_elim
      (λ (low : address < header). absurd (none-some payload (sym (none_low address low) ∙ h)))
      (λ (high : header ≤ address).
      let at : address ≡ (address - header) + header = omega arith in
      let from = and_then_from (payload_of S.part.spaces) _ payload (sym (payload_at (address - header)) ∙ ap (get (sliced_of S)) (sym at) ∙ h) in
      let w = is_whole (address - header) from.0 from.1 in
      let is = same_Some (drop header w.bytes) payload (sym (ap (option_map (drop header)) w.there) ∙ from.2) in
      let long = ap length (sym is) ∙ length-drop header w.bytes in
      let whole = w.whole in
      let some = w.some in
      record { start = address - header; region = from.0; at = at; there = from.1; long = omega (arith, long, whole, some) })
      (cases_lt address header)

  -- where a payload holds a range, its block holds the range's start
  pub start_held : (address count j : ℕ) (payload : List ℕ) → 1 ≤ count → (of : IsOf j payload) → holds_in_payload address count (j, payload) ≡ true → (of.start + header ≤ address) × (address + count ≤ of.start + of.region.pages * 4096)
  start_held address count j payload some of holds = search (rules, payload_test)

  -- a range of which no block holds the start is in no payload
  pub none_found : (address count : ℕ) → 1 ≤ count → NoneHolds S address → block_found (sliced_of S) address count ≡ None
  none_found address count some none = ap (option_map {U = ℕ × ℕ} (λ b. (b.0, address - b.0))) (finds_none_in_map (holds_in_payload address count) (sliced_of S) (λ j w h.
      false_from_ne_true _ (λ holds.
      let of = is_of j w h in
      let held = start_held address count j w some of holds in
      let low = held.0 in
      let high = held.1 in
      none of.start of.region of.there (omega (arith, low)) (omega (arith, high, some)))))

  module _ (start ds address count : ℕ) (some : 1 ≤ count) (held : HoldsAddress S start ds address) where
    -- a payload that holds the range is that of the block that holds its start
    one_payload : (j : ℕ) (payload : List ℕ) → (h : get (sliced_of S) j ≡ Some payload) → holds_in_payload address count (j, payload) ≡ true → (j ≡ start + header) × (start + header ≤ address) × (address + count ≤ start + held.pages * 4096)
    one_payload j payload h holds =
        let of = is_of j payload h in
        let in_block = start_held address count j payload some of holds in
        let low = in_block.0 in
        let high = in_block.1 in
        let same = held.only of.start of.region of.there (omega (arith, low)) (omega (arith, high, some)) in
        let pages : of.region.pages ≡ held.pages = ap (λ (r : Region). r.pages) (same_Some of.region _ (sym of.there ∙ ap (get (block_regions S)) same ∙ held.region)) in
        (of.at ∙ ap (λ n. n + header) same, omega (arith, same, low), omega (arith, same, pages, high))

    -- a range that isn't within the payload is in none
    pub outside : ((start + header ≤ address) → (address + count ≤ start + held.pages * 4096) → ⊥) → block_found (sliced_of S) address count ≡ None
    outside beyond = ap (option_map {U = ℕ × ℕ} (λ b. (b.0, address - b.0))) (finds_none_in_map (holds_in_payload address count) (sliced_of S) (λ j w h.
        false_from_ne_true _ (λ holds. let one = one_payload j w h holds in beyond one.1 one.2)))

    -- and one that is within it is found there
    pub range_held : (offset : ℕ) → start + offset ≡ address → header ≤ offset → offset + count ≤ held.pages * 4096 → HoldsRange S ds offset address count
    range_held offset at behind within =
        let w = is_whole start _ held.region in
        let whole = w.whole in
        let payload = payload_there start _ w.bytes held.region w.there in
        let long = length-drop header w.bytes in
        let test : holds_in_payload address count (start + header, drop header w.bytes) ≡ true = grind (arith, nat_tests) in
        let place : address - (start + header) ≡ offset - header = omega (arith, at, behind) in
        record {
          start = start;
          pages = held.pages;
          bytes = w.bytes;
          region = held.region;
          there = w.there;
          at = at;
          behind = behind;
          within = omega (arith, whole, within);
          payload = payload;
          found = ap (option_map {U = ℕ × ℕ} (λ b. (b.0, address - b.0))) (finds_in_map (holds_in_payload address count) (sliced_of S) (start + header) (drop header w.bytes) payload test (λ j v h holds. (one_payload j v h holds).0))
              ∙ ap (λ n. Some (start + header, n)) place;
        }

  -- a payload starts where a block does
  no_payload : (start : ℕ) → ((r : Region) → get (block_regions S) start ≡ Some r → 1 ≤ r.pages → ⊥) → get (sliced_of S) (start + header) ≡ None
  no_payload start none =
      elim (get (block_regions S) start) as (λ o. get (block_regions S) start ≡ o → get (sliced_of S) (start + header) ≡ None) [
        | None ↦ λ e. payload_at start ∙ ap (option_and_then (payload_of S.part.spaces)) e
        | Some r ↦ λ e. absurd (none r e (is_whole start r e).some)
      ] refl

  module _ (address start : ℕ) (behind : header ≤ address) (is : start ≡ address - header) where
    at_address : start + header ≡ address
    at_address = omega (arith, is, behind)

    -- so none where no block holds the start of a header before it
    pub none_from : NoneHolds S start → get (sliced_of S) address ≡ None
    none_from none = ap (get (sliced_of S)) (sym at_address) ∙ no_payload start (λ r e some. none start r e (omega arith) (omega (arith, some)))

    -- nor where the block that does starts before it
    pub none_behind : (first ds : ℕ) → HoldsAddress S first ds start → (first ≡ start → ⊥) → get (sliced_of S) address ≡ None
    none_behind first ds held apart = ap (get (sliced_of S)) (sym at_address) ∙ no_payload start (λ r e some. apart (sym (held.only start r e (omega arith) (omega (arith, some)))))
