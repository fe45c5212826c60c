-- Where regions can be attached, and what stays when they change.
use Rattle.std.proofs.Common.{rules, ◌≡◌, ℕ, ◌+◌, ◌-◌, ◌*◌, ◌%◌, ◌<◌, ◌≤◌, ◌&&◌, Bool, true, false, cond, not, length, is_some, IsSome, Some, refl, sym, ap, subst, ◌∙◌, true≢false, eqb, eqb-true, ◌==◌, nat_le, zero, suc, map, arith, ◌≢◌}
use Rattle.std.proofs.lemmas.Bool.Decides.{nat_tests}
use Rattle.std.proofs.lemmas.Option.{none-some, same_Some, some_pair_parts}
use Rattle.std.specs.Prelude.{Option, None, if◌then◌else◌}
use Rattle.std.specs.Option.{option_map, option_and_then}
use Rattle.std.specs.List.{find, list_any, range_with_len}
use Rattle.std.specs.FinMap.{get, insert, remove, entries, len}
use Rattle.own_model.specs.NatMap.{NatMap, picked}
use Rattle.own_model.specs.Region.{Region, overlap, meets, can_attach, first_gap, IsPlace, IsFirstGap, region_at, resolved, without, holds, attach_refusal, attach_at_refusal, detach_refusal}
use Rattle.own_model.proofs.NatMapLemmas.{same, get-picked, picked-insert_some, picked-remove, none_of}
use Rattle.own_model.proofs.EntryLemmas.{sizes_alike, len-sizes, list_any-sized, find-sized, list_any-find, found_in_map, not_found_in_map, finds_none_in_map}
use Rattle.own_model.proofs.Totals.{total-picked_le, len-total}
use Rattle.std.proofs.lemmas.Bool.{eq-eqb, eqb-false}

-- ---- ranges

-- whether two ranges overlap is the same from either side
pub overlap_sym : (a p b q : ℕ) → overlap a p b q ≡ overlap b q a p
overlap_sym a p b q = grind (arith, nat_tests)

-- two ranges with one start overlap, where each has a page
pub overlap_self : (a p q : ℕ) → 1 ≤ p → 1 ≤ q → overlap a p a q ≡ true
overlap_self a p q some more = grind (arith, nat_tests)

-- ---- whether pages meet a region

-- an entry's region overlaps so many pages at an address
abbrev overlap_at : ℕ → ℕ → ℕ × Region → Bool
overlap_at address pages e = overlap e.0 e.1.pages address pages

-- pages that meet no region overlap none
pub meets_none : (regions : NatMap Region) (address pages start : ℕ) (region : Region) → meets regions address pages ≡ false → get regions start ≡ Some region → overlap start region.pages address pages ≡ false
meets_none regions address pages start region clear there = grind (arith, nat_tests, not_found_in_map, none_of, list_any-find)

-- pages that overlap no region meet none
pub clear_of_all : (regions : NatMap Region) (address pages : ℕ) → ((start : ℕ) (region : Region) → get regions start ≡ Some region → overlap start region.pages address pages ≡ false) → meets regions address pages ≡ false
clear_of_all regions address pages apart = grind (arith, nat_tests, list_any-find, finds_none_in_map)

-- ---- places

-- what passes the tests of a place is aligned, lies within the window and meets no region
parts_of_place : (low high pages address : ℕ) (m : Bool) → (eqb (address % 4096) 0 && (nat_le low address && nat_le (address + pages * 4096) high)) && not m ≡ true → (address % 4096 ≡ 0) × (low ≤ address) × (address + pages * 4096 ≤ high) × (m ≡ false)
parts_of_place low high pages address m h = grind (arith, nat_tests)

-- and what is all of these passes them
tests_of_place : (low high pages address : ℕ) (m : Bool) → address % 4096 ≡ 0 → low ≤ address → address + pages * 4096 ≤ high → m ≡ false → (eqb (address % 4096) 0 && (nat_le low address && nat_le (address + pages * 4096) high)) && not m ≡ true
tests_of_place low high pages address m aligned from to clear = grind (arith, nat_tests)

-- where pages can stand is a place
pub place : (low high : ℕ) (regions : NatMap Region) (pages address : ℕ) → can_attach low high regions pages address ≡ true → IsPlace low high regions pages address
place low high regions pages address can = grind (arith, nat_tests, parts_of_place, meets_none)

-- pages can stand at a place
pub stands : (low high : ℕ) (regions : NatMap Region) (pages address : ℕ) → IsPlace low high regions pages address → can_attach low high regions pages address ≡ true
stands low high regions pages address at = grind (arith, nat_tests, tests_of_place, clear_of_all)

-- no region starts where pages can stand
pub free_place : (low high : ℕ) (regions : NatMap Region) (pages address : ℕ) → 1 ≤ pages → ((start : ℕ) (region : Region) → get regions start ≡ Some region → 1 ≤ region.pages) →
    IsPlace low high regions pages address → get regions address ≡ None
free_place low high regions pages address some each at =
    elim (get regions address) as (λ o. get regions address ≡ o → o ≡ None) [
      | None ↦ λ _. refl
      | Some r ↦ λ there. absurd (true≢false (sym (overlap_self address r.pages pages (each address r there) some) ∙ at.free address r there))
    ] refl

-- ---- the first gap

module _ (test : ℕ → Bool) where
  -- if a number fails and all after it up to b do, all from it on up to b do
  earlier : (a b c : ℕ) → test a ≡ false → ((d : ℕ) → a + 1 ≤ d → d < b → test d ≡ false) → a ≤ c → c < b → test c ≡ false
  earlier a b c first rest from below = grind (arith, nat_tests, rest c)

  -- the same of so many numbers after the first
  later_fails : (a n c : ℕ) → test a ≡ false → ((d : ℕ) → a + 1 ≤ d → d < a + 1 + n → test d ≡ false) → a ≤ c → c < a + suc n → test c ≡ false
  later_fails a n c first rest from below = grind (arith, nat_tests, rest c)

  -- a number that is found passes, and none before it does
  pub found_in_range : (n a b : ℕ) → find test (range_with_len a n) ≡ Some b → (a ≤ b) × (test b ≡ true) × ((c : ℕ) → a ≤ c → c < b → test c ≡ false)
  found_in_range zero a b is = absurd (none-some b is)
  found_in_range (suc n) a b is =
      elim (test a) as (λ t. test a ≡ t → cond t (Some a) (find test (range_with_len (a + 1) n)) ≡ Some b → (a ≤ b) × (test b ≡ true) × ((c : ℕ) → a ≤ c → c < b → test c ≡ false)) [
        | true ↦ λ passes here.
            let same = same_Some a b here in
            (omega arith, subst (λ c. test c ≡ true) same passes, λ c from below. absurd (omega arith))
        | false ↦ λ fails later.
            let rest = found_in_range n (a + 1) b later in
            (omega arith, rest.1, λ c from below. earlier a b c fails rest.2 from below)
      ] refl is

  -- where none is found, none passes
  pub none_in_range : (n a : ℕ) → find test (range_with_len a n) ≡ None → (c : ℕ) → a ≤ c → c < a + n → test c ≡ false
  none_in_range zero a is c from below = absurd (omega arith)
  none_in_range (suc n) a is c from below =
      elim (test a) as (λ t. test a ≡ t → cond t (Some a) (find test (range_with_len (a + 1) n)) ≡ None → test c ≡ false) [
        | true ↦ λ passes some. absurd (none-some a (sym some))
        | false ↦ λ fails none. later_fails a n c fails (none_in_range n (a + 1) none) from below
      ] refl is

module _ (low high : ℕ) (regions : NatMap Region) (pages : ℕ) where
  -- a place is among the addresses that are searched
  in_range : (b : ℕ) → IsPlace low high regions pages b → b < low + (high + 1 - low)
  in_range b at = let from = at.from_low in let to = at.to_high in omega arith

  -- where pages can't stand is no place
  fails_at : (b : ℕ) → can_attach low high regions pages b ≡ false → ¬ IsPlace low high regions pages b
  fails_at b fails at = true≢false (sym (stands low high regions pages b at) ∙ fails)

  -- the first gap is the least place
  pub first_gap_least : IsFirstGap low high regions pages (first_gap low high regions pages)
  unfolding first_gap
  first_gap_least =
      let test = can_attach low high regions pages in
      let count = high + 1 - low in
      elim (find test (range_with_len low count)) as (λ o. find test (range_with_len low count) ≡ o → IsFirstGap low high regions pages o) [
        | None ↦ λ is b at. fails_at b (none_in_range test count low is b at.from_low (in_range b at)) at
        | Some a ↦ λ is.
            let facts = found_in_range test count low a is in
            (place low high regions pages a facts.1, λ b below at. fails_at b (facts.2 b at.from_low below) at)
      ] refl

  -- there is one least place at most
  one_first_gap : (o p : Option ℕ) → IsFirstGap low high regions pages o → IsFirstGap low high regions pages p → o ≡ p
  one_first_gap None None x y = refl
  one_first_gap None (Some b) x y = absurd (x b y.0)
  one_first_gap (Some a) None x y = absurd (y a x.0)
  one_first_gap (Some a) (Some b) x y = grind (arith, nat_tests, same)

  -- the least place is the first gap
  pub first_gap_is : (o : Option ℕ) → IsFirstGap low high regions pages o → first_gap low high regions pages ≡ o
  first_gap_is o h = one_first_gap (first_gap low high regions pages) o first_gap_least h

-- ---- regions without those of a thing

-- what is left of the regions without those of a selector was there, and is of another
kept_region : (selector : ℕ) (o : Option Region) (region : Region) → option_and_then (λ r. if r.of == selector then None else Some r) o ≡ Some region → (o ≡ Some region) × (region.of ≢ selector)
kept_region selector None region is = absurd (none-some region is)
kept_region selector (Some r) region is = grind (arith, nat_tests, same, none-some, same_Some, eqb-false)

-- the same of the map
pub left_without : (selector : ℕ) (regions : NatMap Region) (start : ℕ) (region : Region) → get (without selector regions) start ≡ Some region → (get regions start ≡ Some region) × (region.of ≢ selector)
left_without selector regions start region is = grind (arith, nat_tests, kept_region, get-picked)

-- they are no more
pub len-without : (selector : ℕ) (regions : NatMap Region) → len (without selector regions) ≤ len regions
len-without selector regions = grind (arith, nat_tests, total-picked_le, len-total)

-- ---- regions of the same starts and pages, of whatever things

-- at each start both have a region of as many pages, or neither has one
pub record AreAlike (xs ys : NatMap Region) : Type 0 where
  -- each start has as many pages in either
  pub pages : (start : ℕ) → option_map (λ region. region.pages) (get xs start) ≡ option_map (λ region. region.pages) (get ys start)

-- and so the other way round
pub AreAlike-sym : (xs ys : NatMap Region) → AreAlike xs ys → AreAlike ys xs
AreAlike-sym xs ys alike = record { pages = λ start. sym (alike.pages start) }

-- where there are so many pages there is a region that has them
pages_of_some : (o : Option Region) (n : ℕ) → option_map (λ region. region.pages) o ≡ Some n → (r : Region) × (o ≡ Some r) × (r.pages ≡ n)
pages_of_some None n is = absurd (none-some n is)
pages_of_some (Some r) n is = (r, refl, same_Some r.pages n is)

-- a region of the one has a twin in the other
pub twin : (xs ys : NatMap Region) → AreAlike xs ys → (start : ℕ) (region : Region) → get ys start ≡ Some region → (r : Region) × (get xs start ≡ Some r) × (r.pages ≡ region.pages)
twin xs ys alike start region there = search (rules, pages_of_some)

-- a place among the one is a place among the other
place_alike : (xs ys : NatMap Region) → AreAlike xs ys → (low high pages address : ℕ) → IsPlace low high xs pages address → IsPlace low high ys pages address
place_alike xs ys alike low high pages address at = grind (arith, nat_tests, twin)

-- the first gap among the one is the first gap among the other
first_gap_among : (xs ys : NatMap Region) → AreAlike xs ys → (low high pages : ℕ) (o : Option ℕ) → IsFirstGap low high xs pages o → IsFirstGap low high ys pages o
first_gap_among xs ys alike low high pages None h = λ b at. h b (place_alike ys xs (AreAlike-sym xs ys alike) low high pages b at)
first_gap_among xs ys alike low high pages (Some a) h = grind (arith, nat_tests, place_alike, AreAlike-sym)

-- the first gap depends on starts and pages alone
pub first_gap_alike : (xs ys : NatMap Region) → AreAlike xs ys → (low high pages : ℕ) → first_gap low high xs pages ≡ first_gap low high ys pages
first_gap_alike xs ys alike low high pages = grind (arith, nat_tests, first_gap_is, first_gap_among, first_gap_least)

-- a start, and how many pages
abbrev pub shape : ℕ × Region → ℕ × ℕ
shape e = (e.0, e.1.pages)

-- the same shapes in the same order
pub shapes_alike : (xs ys : NatMap Region) → AreAlike xs ys → map shape (entries xs) ≡ map shape (entries ys)
shapes_alike xs ys alike = sizes_alike (λ region. region.pages) xs ys alike.pages

-- there are as many of them
pub len_alike : (xs ys : NatMap Region) → AreAlike xs ys → len xs ≡ len ys
len_alike xs ys alike = len-sizes (λ region. region.pages) xs ys alike.pages

-- pages meet a region of the one where they meet a region of the other
pub meets_alike : (xs ys : NatMap Region) → AreAlike xs ys → (address pages : ℕ) → meets xs address pages ≡ meets ys address pages
meets_alike xs ys alike address pages =
    let test : ℕ × ℕ → Bool = λ s. overlap s.0 s.1 address pages in
    let pages : Region → ℕ = λ region. region.pages in
    list_any-sized pages test (entries xs) ∙ ap (list_any test) (shapes_alike xs ys alike) ∙ sym (list_any-sized pages test (entries ys))

-- regions of the same start and pages hold a range in either
pub region_at_alike : (xs ys : NatMap Region) → AreAlike xs ys → (address length : ℕ) → option_map shape (region_at xs address length) ≡ option_map shape (region_at ys address length)
region_at_alike xs ys alike address length =
    let test : ℕ × ℕ → Bool = λ s. nat_le s.0 address && nat_le (address + length) (s.0 + s.1 * 4096) in
    let pages : Region → ℕ = λ region. region.pages in
    find-sized pages test (entries xs) ∙ ap (find test) (shapes_alike xs ys alike) ∙ sym (find-sized pages test (entries ys))

-- ---- refusals depend on starts and pages alone

-- an attachment at the first gap is refused alike
pub attach_refusal_alike : (xs ys : NatMap Region) → AreAlike xs ys → (most pages : ℕ) → attach_refusal most xs pages ≡ attach_refusal most ys pages
attach_refusal_alike xs ys alike most pages = grind (arith, nat_tests, len_alike, first_gap_alike)

-- so is one at an address
pub attach_at_refusal_alike : (xs ys : NatMap Region) → AreAlike xs ys → (most pages address : ℕ) → attach_at_refusal most xs pages address ≡ attach_at_refusal most ys pages address
attach_at_refusal_alike xs ys alike most pages address = grind (arith, nat_tests, len_alike, meets_alike)

-- of two options of as many pages both are regions or neither is
some_alike : (o p : Option Region) → option_map (λ region. region.pages) o ≡ option_map (λ region. region.pages) p → is_some o ≡ is_some p
some_alike None None e = refl
some_alike None (Some r) e = absurd (none-some r.pages e)
some_alike (Some r) None e = absurd (none-some r.pages (sym e))
some_alike (Some r) (Some s) e = refl

-- a detachment is refused alike
pub detach_refusal_alike : (xs ys : NatMap Region) → AreAlike xs ys → (address : ℕ) → detach_refusal xs address ≡ detach_refusal ys address
detach_refusal_alike xs ys alike address = search (rules, some_alike)

-- ---- what a range of addresses finds

-- a range that passes the test of a region starts and ends within it
parts_of_held : (address bytes start pages : ℕ) → nat_le start address && nat_le (address + bytes) (start + pages * 4096) ≡ true → (start ≤ address) × (address + bytes ≤ start + pages * 4096)
parts_of_held address bytes start pages h = grind (arith, nat_tests)

-- a range that ends within a region ends within its pages, counted from its start
within_pages : (start offset address bytes pages : ℕ) → start + offset ≡ address → address + bytes ≤ start + pages * 4096 → offset + bytes ≤ pages * 4096
within_pages start offset address bytes pages e h = omega arith

-- what holds a range is a region that has all of it
pub region_at_facts : (regions : NatMap Region) (address bytes : ℕ) (e : ℕ × Region) → region_at regions address bytes ≡ Some e → (get regions e.0 ≡ Some e.1) × (e.0 ≤ address) × (address + bytes ≤ e.0 + e.1.pages * 4096)
region_at_facts regions address bytes e is = let at = found_in_map (holds address bytes) regions e is in grind (arith, nat_tests, at, parts_of_held address bytes e.0 e.1.pages at.0)

-- what a range resolves to is a region that has all of it from an offset on
pub resolved_facts : (regions : NatMap Region) (address bytes of offset : ℕ) → resolved regions address bytes ≡ Some (of, offset) → (e : ℕ × Region) × (region_at regions address bytes ≡ Some e) × (get regions e.0 ≡ Some e.1) × (e.1.of ≡ of) × (e.0 + offset ≡ address) × (offset + bytes ≤ e.1.pages * 4096)
resolved_facts regions address bytes of offset is =
    elim (region_at regions address bytes) as (λ o. region_at regions address bytes ≡ o → ◌≡◌ {A = Option (ℕ × ℕ)} (option_map (λ e. (e.1.of, address - e.0)) o) (Some (of, offset)) → (e : ℕ × Region) × (region_at regions address bytes ≡ Some e) × (get regions e.0 ≡ Some e.1) × (e.1.of ≡ of) × (e.0 + offset ≡ address) × (offset + bytes ≤ e.1.pages * 4096)) [
      | None ↦ λ _ h. absurd (none-some (of, offset) h)
      | Some e ↦ λ at h.
          let parts = some_pair_parts e.1.of of (address - e.0) offset h in
          let facts = region_at_facts regions address bytes e at in
          let from = facts.1 in
          let to = facts.2 in
          let start : e.0 + offset ≡ address = omega (arith, parts.1) in
          (e, at, facts.0, parts.0, start, within_pages e.0 offset address bytes e.1.pages start to)
    ] refl is

-- ---- regions under other names

-- the regions whose things have another name, under that name
abbrev pub renamed : (ℕ → Option ℕ) → NatMap Region → NatMap Region
renamed name regions = picked (λ region. option_map (λ other. record region { of = other }) (name region.of)) regions

module _ (name : ℕ → Option ℕ) where
  -- a region that is renamed keeps its pages
  kept_pages : (o : Option Region) → ((region : Region) → o ≡ Some region → IsSome (name region.of)) → option_map (λ region. region.pages) o ≡ option_map (λ region. region.pages) (option_and_then (λ region. option_map (λ other. record region { of = other }) (name region.of)) o)
  kept_pages None all = refl
  kept_pages (Some r) all = grind (arith, nat_tests, true≢false)

  -- where all things have another name, starts and pages stay
  pub AreAlike-renamed : (regions : NatMap Region) → ((start : ℕ) (region : Region) → get regions start ≡ Some region → IsSome (name region.of)) → AreAlike regions (renamed name regions)
  AreAlike-renamed regions all = search (rules, kept_pages, get-picked)

  -- a region whose thing has another name comes under that name
  pub renamed-insert : (regions : NatMap Region) (start of pages other : ℕ) → name of ≡ Some other → renamed name (insert regions start (record { of = of; pages = pages })) ≡ insert (renamed name regions) start (record { of = other; pages = pages })
  renamed-insert regions start of pages other is = grind (arith, nat_tests, picked-insert_some)

  -- a region that is removed is removed under the other names too
  pub renamed-remove : (regions : NatMap Region) (start : ℕ) → renamed name (remove regions start) ≡ remove (renamed name regions) start
  renamed-remove regions start = picked-remove _ regions start

  -- the name that a renamed region has is the one that it was given
  named : (n : Option ℕ) (r s : Region) → option_map (λ other. record r { of = other }) n ≡ Some s → n ≡ Some s.of
  named None r s is = absurd (none-some s is)
  named (Some other) r s is = ap (option_map (λ region. region.of)) is

  -- a shape that is there is that of an entry
  found_shape : (o : Option (ℕ × Region)) (p : ℕ × ℕ) → Some p ≡ option_map shape o → (e : ℕ × Region) × (o ≡ Some e) × (p ≡ shape e)
  found_shape None p is = absurd (none-some p (sym is))
  found_shape (Some e) p is = (e, refl, same_Some p (shape e) is)

  -- where no shape is there, no entry is
  none_shape : (o : Option (ℕ × Region)) → ◌≡◌ {A = Option (ℕ × ℕ)} None (option_map shape o) → o ≡ None
  none_shape None is = refl
  none_shape (Some e) is = absurd (none-some (shape e) is)

  -- what a range resolves to is renamed with the regions
  pub resolved_renamed : (regions : NatMap Region) → ((start : ℕ) (region : Region) → get regions start ≡ Some region → IsSome (name region.of)) → (address bytes : ℕ) → resolved (renamed name regions) address bytes ≡ option_and_then (λ p. option_map (λ other. (other, p.1)) (name p.0)) (resolved regions address bytes)
  resolved_renamed regions all address bytes =
      let place : ℕ × Region → ℕ × ℕ = λ e. (e.1.of, address - e.0) in
      let others = renamed name regions in
      let alike : option_map shape (region_at regions address bytes) ≡ option_map shape (region_at others address bytes) = region_at_alike regions others (AreAlike-renamed regions all) address bytes in
      elim (region_at regions address bytes) as (λ o. region_at regions address bytes ≡ o → option_map shape o ≡ option_map shape (region_at others address bytes) → ◌≡◌ {A = Option (ℕ × ℕ)} (option_map place (region_at others address bytes)) (option_and_then (λ p. option_map (λ other. (other, p.1)) (name p.0)) (option_map place o))) [
        | None ↦ λ at h. ap (option_map place) (none_shape (region_at others address bytes) h)
        | Some e ↦ λ at h.
            let other = found_shape (region_at others address bytes) (shape e) h in
            let f = other.0 in
            let key : e.0 ≡ f.0 = ap (λ (p : ℕ × ℕ). p.0) other.2 in
            let here = region_at_facts regions address bytes e at in
            let there = region_at_facts others address bytes f other.1 in
            let rename : Region → Option Region = λ region. option_map (λ n. record region { of = n }) (name region.of) in
            let value : rename e.1 ≡ Some f.1 = sym (get-picked rename regions e.0 ∙ ap (option_and_then rename) here.0) ∙ ap (get others) key ∙ there.0 in
            ap (option_map place) other.1
            ∙ ap (λ (n : ℕ). Some (f.1.of, address - n)) (sym key)
            ∙ sym (ap (option_map (λ n. (n, address - e.0))) (named (name e.1.of) e.1 f.1 value))
      ] refl alike

  -- the name of one thing alone, which goes with its regions
  module _ (of other : ℕ) (is : name of ≡ Some other) (alone : (thing : ℕ) → name thing ≡ Some other → thing ≡ of) where
    -- a region under the other name of its thing, if that has one
    rename : Region → Option Region
    rename region = option_map (λ n. record region { of = n }) (name region.of)

    -- a region, unless it is of one thing
    but : ℕ → Region → Option Region
    but thing region = cond (region.of == thing) None (Some region)

    -- a region of another thing gets another name
    renamed_apart : (region : Region) (n : ℕ) → name region.of ≡ Some n → eqb region.of of ≡ false → eqb n other ≡ false
    renamed_apart region n there differs = grind (arith, nat_tests, eq-eqb, eqb-true)

    -- a region is of the thing before it is renamed where it is of its name after that
    rename_but : (o : Option Region) → option_and_then rename (option_and_then (but of) o) ≡ option_and_then (but other) (option_and_then rename o)
    unfolding rename but
    rename_but None = refl
    rename_but (Some region) = grind (arith, nat_tests, rename, but, named, eqb-true, eq-eqb, renamed_apart)

    -- regions without those of a thing, renamed, are the renamed ones without those of its name
    pub renamed-without : (regions : NatMap Region) → renamed name (without of regions) ≡ without other (renamed name regions)
    unfolding rename but
    renamed-without regions = grind (arith, nat_tests, same, get-picked, rename, but, rename_but)
