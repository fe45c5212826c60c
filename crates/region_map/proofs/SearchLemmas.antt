-- What is found among rows in order: the last one up to an address, and what the maps have there.
use Rattle.std.proofs.Common.{◌≡◌, ℕ, suc, zero, ◌+◌, ◌*◌, ◌<◌, ◌≤◌, ◌≢◌, ◌&&◌, ◌||◌, ◌⊎◌, Bool, true, false, cond, eqb, eqb-true, List, [], ◌∷◌, map, length, get_or, is_some, Some, refl, sym, ap, subst, ◌∙◌, inl, inr, nat_le, nat_lt, arith}
use Rattle.std.proofs.Math.Bool.{or-false}
use Rattle.std.proofs.lemmas.Bool.{cases_lt, le-leb, lt-leb}
use Rattle.std.proofs.lemmas.Bool.Decides.{nat_tests}
use Rattle.std.proofs.lemmas.Option.{none-some, same_Some}
use Rattle.std.specs.Prelude.{Option, None}
use Rattle.std.specs.Option.{option_or, option_and_then}
use Rattle.std.specs.List.{list_any, find}
use Rattle.std.specs.List.Sorted.{IsNonDecreasingBy}
use Rattle.std.specs.FinMap.{get}
use Rattle.own_model.specs.Region.{Region, overlap, holds, meets, region_at}
use Rattle.own_model.proofs.NatMapLemmas.{get-insert, get-insert_same, get-insert_other, get-empty}
use Rattle.region_map.specs.declared.row.RegionRow.{RegionRow}
use Rattle.region_map.specs.RegionRows.{region_of, end_of, map_of, AreInOrder, count_to, last_to}
use Rattle.region_map.proofs.RowLemmas.{entry, map_of-cons, entries-map_of}

-- ---- how many rows start at an address or before

-- rows in order start past where they begin
pub from_low : (low high j : ℕ) (rows : List RegionRow) (d : RegionRow) → AreInOrder low high rows → j < length rows → low ≤ (get_or rows j d).start
from_low low high j [] d is h = absurd (omega arith)
from_low low high zero (row ∷ rows) d is h = is.0
from_low low high (suc j) (row ∷ rows) d is h =
    let rest = from_low (end_of row) high j rows d is.1 (omega arith) in
    let from = is.0 in
    omega arith

-- their starts rise
pub rising : (low high : ℕ) (rows : List RegionRow) → AreInOrder low high rows → IsNonDecreasingBy (λ row. row.start) rows
rising low high [] is i j d le h = absurd (omega arith)
rising low high (row ∷ rows) is zero zero d le h = omega arith
rising low high (row ∷ rows) is zero (suc j) d le h = let rest = from_low (end_of row) high j rows d is.1 (omega arith) in omega arith
rising low high (row ∷ rows) is (suc i) zero d le h = absurd (omega arith)
rising low high (row ∷ rows) is (suc i) (suc j) d le h = rising (end_of row) high rows is.1 i j d (omega arith) (omega arith)

-- ---- the last of them

-- where there are none there is no last
pub last_of_none : (address : ℕ) (rows : List RegionRow) → count_to address rows ≡ 0 → last_to address rows ≡ None
unfolding count_to last_to
last_of_none address [] is = refl
last_of_none address (row ∷ rows) is =
    elim (nat_le row.start address) as (λ b. cond b (suc (count_to address rows)) 0 ≡ 0 → cond b (option_or (last_to address rows) (Some row)) None ≡ None) [
      | true ↦ λ h. absurd (omega arith)
      | false ↦ λ h. refl
    ] is

-- else it stands before the count
pub last_of_some : (address n : ℕ) (rows : List RegionRow) (row : RegionRow) → count_to address rows ≡ suc n → row ≡ get_or rows n row → last_to address rows ≡ Some row
unfolding count_to last_to
last_of_some address n [] row is at = absurd (omega arith)
last_of_some address zero (r ∷ rows) row is at =
    elim (nat_le r.start address) as (λ b. cond b (suc (count_to address rows)) 0 ≡ 1 → cond b (option_or (last_to address rows) (Some r)) None ≡ Some row) [
      | true ↦ λ h. ap (λ o. option_or o (Some r)) (last_of_none address rows (omega arith)) ∙ ap (λ x. Some x) (sym at)
      | false ↦ λ h. absurd (omega arith)
    ] is
last_of_some address (suc n) (r ∷ rows) row is at =
    elim (nat_le r.start address) as (λ b. cond b (suc (count_to address rows)) 0 ≡ suc (suc n) → cond b (option_or (last_to address rows) (Some r)) None ≡ Some row) [
      | true ↦ λ h. ap (λ o. option_or o (Some r)) (last_of_some address n rows row (omega arith) at)
      | false ↦ λ h. absurd (omega arith)
    ] is

-- a number below one is below a greater one
later_ends : (a b c : ℕ) → b ≤ c → (nat_lt a b || nat_lt a c) ≡ nat_lt a c
later_ends a b c h = grind (arith, nat_tests)

-- rows that begin past an address have none up to it
pub last_before : (address low high : ℕ) (rows : List RegionRow) → address < low → AreInOrder low high rows → last_to address rows ≡ None
unfolding last_to
last_before address low high [] less is = refl
last_before address low high (row ∷ rows) less is =
    ap (λ b. cond b (option_or (last_to address rows) (Some row)) None) (lt-leb row.start address (let from = is.0 in omega arith))

-- the last row among rows that one stands in front of
record IsLastOf (address : ℕ) (first : RegionRow) (rows : List RegionRow) (row : RegionRow) : Type 0 where
  among : ((last_to address rows ≡ None) × (first ≡ row) × (first.start ≤ address)) ⊎ (last_to address rows ≡ Some row)

-- it is the first one, if no later one is
cases_last : (address : ℕ) (first : RegionRow) (rows : List RegionRow) (row : RegionRow) → last_to address (first ∷ rows) ≡ Some row → IsLastOf address first rows row
unfolding last_to
cases_last address first rows row is =
    elim (nat_le first.start address) as (λ b. nat_le first.start address ≡ b → cond b (option_or (last_to address rows) (Some first)) None ≡ Some row → IsLastOf address first rows row) [
      | true ↦ λ t h.
          let from : first.start ≤ address = grind (arith, nat_tests) in
          elim (last_to address rows) as (λ o. last_to address rows ≡ o → option_or o (Some first) ≡ Some row → IsLastOf address first rows row) [
            | None ↦ λ none e. record { among = inl (none, same_Some first row e, from) }
            | Some r ↦ λ some e. record { among = inr (some ∙ e) }
          ] refl h
      | false ↦ λ t h. absurd (none-some row h)
    ] refl is

-- it starts where the rows begin or later, and at the address or before
pub last_within : (address low high : ℕ) (rows : List RegionRow) (row : RegionRow) → AreInOrder low high rows → last_to address rows ≡ Some row → (low ≤ row.start) × (row.start ≤ address)
unfolding last_to
last_within address low high [] row is last = absurd (none-some row last)
last_within address low high (r ∷ rows) row is last =
    elim (cases_last address r rows row last).among [
      | inl at ↦ subst (λ (x : RegionRow). (low ≤ x.start) × (x.start ≤ address)) at.1 (is.0, at.2)
      | inr later ↦
          let rest = last_within address (end_of r) high rows row is.1 later in
          let from = is.0 in
          let past = rest.0 in
          (omega arith, rest.1)
    ]

-- ---- what the maps have there

module _ {X : Type 0} (f : RegionRow → X) where
  -- what f tells of it stands under its start
  pub get_last : (address low high : ℕ) (rows : List RegionRow) (row : RegionRow) → AreInOrder low high rows → last_to address rows ≡ Some row → get (map_of f rows) row.start ≡ Some (f row)
  unfolding last_to
  get_last address low high [] row is last = absurd (none-some row last)
  get_last address low high (r ∷ rows) row is last =
      ap (λ m. get m row.start) (map_of-cons f r rows)
      ∙ elim (cases_last address r rows row last).among [
        | inl at ↦ get-insert_same (map_of f rows) r.start (f r) row.start (ap (λ (x : RegionRow). x.start) (sym at.1)) ∙ ap (λ x. Some (f x)) at.1
        | inr later ↦
            let past = (last_within address (end_of r) high rows row is.1 later).0 in
            let some = r.some in
            get-insert_other (map_of f rows) r.start (f r) row.start (λ e. absurd (omega arith)) ∙ get_last address (end_of r) high rows row is.1 later
      ]

  -- nothing starts at an address where the last row up to it doesn't
  pub get_nothing : (address low high : ℕ) (rows : List RegionRow) → AreInOrder low high rows → ((row : RegionRow) → last_to address rows ≡ Some row → row.start ≢ address) → get (map_of f rows) address ≡ None
  unfolding last_to map_of
  get_nothing address low high [] is other = get-empty address
  get_nothing address low high (r ∷ rows) is other =
      let some = r.some in
      get-insert (map_of f rows) r.start (f r) address
      ∙ elim (eqb address r.start) as (λ b. eqb address r.start ≡ b → cond b (Some (f r)) (get (map_of f rows) address) ≡ None) [
        | true ↦ λ t.
            let here : address ≡ r.start = eqb-true address r.start t in
            let alone : last_to address (r ∷ rows) ≡ Some r =
            ap (λ b. cond b (option_or (last_to address rows) (Some r)) None) (le-leb r.start address (omega arith))
            ∙ ap (λ o. option_or o (Some r)) (last_before address (end_of r) high rows (omega arith) is.1) in
            absurd (other r alone (sym here))
        | false ↦ λ t. get_nothing address (end_of r) high rows is.1 (λ row later.
            let at = last_within address (end_of r) high rows row is.1 later in
            let past = at.0 in
            let up = at.1 in
            other row (ap (λ b. cond b (option_or (last_to address rows) (Some r)) None) (le-leb r.start address (omega arith)) ∙ ap (λ o. option_or o (Some r)) later))
      ] refl

-- a map of the same rows has the same starts
pub same_starts : {X Y : Type 0} (f : RegionRow → X) (g : RegionRow → Y) (rows : List RegionRow) (q : ℕ) → is_some (get (map_of f rows) q) ≡ is_some (get (map_of g rows) q)
unfolding map_of
same_starts f g [] q = ap is_some (get-empty q) ∙ sym (ap is_some (get-empty q))
same_starts f g (row ∷ rows) q =
    ap is_some (get-insert (map_of f rows) row.start (f row) q)
    ∙ elim (eqb q row.start) as (λ b. is_some (cond b (Some (f row)) (get (map_of f rows) q)) ≡ is_some (cond b (Some (g row)) (get (map_of g rows) q))) [ true ↦ refl | false ↦ same_starts f g rows q ]
    ∙ sym (ap is_some (get-insert (map_of g rows) row.start (g row) q))

-- ---- what holds a range

-- a row's entry, if its region holds the range
abbrev pub held : ℕ → ℕ → RegionRow → Option (ℕ × Region)
held address length row = cond (holds address length (entry region_of row)) (Some (entry region_of row)) None

-- only the last row up to the address can hold the range
found_last : (address length low high : ℕ) (rows : List RegionRow) → 1 ≤ length → AreInOrder low high rows → find (holds address length) (map (entry region_of) rows) ≡ option_and_then (held address length) (last_to address rows)
unfolding last_to
found_last address length low high [] more is = refl
found_last address length low high (r ∷ rows) more is =
    let some = r.some in
    let rest = found_last address length (end_of r) high rows more is.1 in
    elim (nat_le r.start address) as (λ b. nat_le r.start address ≡ b → cond (b && nat_le (address + length) (end_of r)) (Some (entry region_of r)) (find (holds address length) (map (entry region_of) rows)) ≡ option_and_then (held address length) (cond b (option_or (last_to address rows) (Some r)) None)) [
      | true ↦ λ t.
          elim (nat_le (address + length) (end_of r)) as (λ h. nat_le (address + length) (end_of r) ≡ h → cond h (Some (entry region_of r)) (find (holds address length) (map (entry region_of) rows)) ≡ option_and_then (held address length) (option_or (last_to address rows) (Some r))) [
            | true ↦ λ h.
                let past : address < end_of r = grind (arith, nat_tests) in
                sym (ap (λ o. option_and_then (held address length) (option_or o (Some r))) (last_before address (end_of r) high rows past is.1)
                ∙ ap (λ b. cond b (Some (entry region_of r)) None) (ap (λ b. b && nat_le (address + length) (end_of r)) t ∙ h))
            | false ↦ λ h.
                elim (last_to address rows) as (λ o. find (holds address length) (map (entry region_of) rows) ≡ option_and_then (held address length) o → find (holds address length) (map (entry region_of) rows) ≡ option_and_then (held address length) (option_or o (Some r))) [
                  | None ↦ λ e. e ∙ sym (ap (λ b. cond b (Some (entry region_of r)) None) (ap (λ b. b && nat_le (address + length) (end_of r)) t ∙ h))
                  | Some row ↦ λ e. e
                ] rest
          ] refl
      | false ↦ λ t.
          let after : address < r.start = grind (arith, nat_tests) in
          rest ∙ ap (option_and_then (held address length)) (last_before address (end_of r) high rows (omega arith) is.1)
    ] refl

-- so that is what the map finds
pub region_at_last : (address length low high : ℕ) (rows : List RegionRow) → 1 ≤ length → AreInOrder low high rows → region_at (map_of region_of rows) address length ≡ option_and_then (held address length) (last_to address rows)
region_at_last address length low high rows more is =
    ap (find (holds address length)) (entries-map_of region_of low high rows is) ∙ found_last address length low high rows more is

-- ---- what pages overlap

-- whether a row, if there is one, ends past an address
abbrev pub ends_after : ℕ → Option RegionRow → Bool
ends_after address None = false
ends_after address (Some row) = nat_lt address (end_of row)

-- an entry's region overlaps so many pages at an address
abbrev pub overlap_at : ℕ → ℕ → ℕ × Region → Bool
overlap_at address pages e = overlap e.0 e.1.pages address pages

-- pages overlap a row where they overlap the last one that starts before their end
overlap_last : (address pages bound low high : ℕ) (rows : List RegionRow) → bound + 1 ≡ address + pages * 4096 → AreInOrder low high rows → list_any (overlap_at address pages) (map (entry region_of) rows) ≡ ends_after address (last_to bound rows)
unfolding last_to
overlap_last address pages bound low high [] e is = refl
overlap_last address pages bound low high (r ∷ rows) e is =
    let some = r.some in
    let rest = overlap_last address pages bound (end_of r) high rows e is.1 in
    elim (cases_lt bound r.start) [
      | inl after ↦
          let none : last_to bound rows ≡ None = last_before bound (end_of r) high rows (omega arith) is.1 in
          let clear : list_any (overlap_at address pages) (map (entry region_of) rows) ≡ false = rest ∙ ap (ends_after address) none in
          let apart : nat_lt r.start (address + pages * 4096) ≡ false = grind (arith, nat_tests) in
          ap (λ b. (b && nat_lt address (end_of r)) || list_any (overlap_at address pages) (map (entry region_of) rows)) apart ∙ clear
          ∙ sym (ap (λ b. ends_after address (cond b (option_or (last_to bound rows) (Some r)) None)) (lt-leb r.start bound after))
      | inr before ↦
          let within : nat_lt r.start (address + pages * 4096) ≡ true = grind (arith, nat_tests) in
          ap (λ b. (b && nat_lt address (end_of r)) || list_any (overlap_at address pages) (map (entry region_of) rows)) within
          ∙ ap (λ b. nat_lt address (end_of r) || b) rest
          ∙ elim (last_to bound rows) as (λ o. last_to bound rows ≡ o → (nat_lt address (end_of r) || ends_after address o) ≡ ends_after address (option_or o (Some r))) [
            | None ↦ λ none. or-false (nat_lt address (end_of r))
            | Some row ↦ λ last.
                let past = (last_within bound (end_of r) high rows row is.1 last).0 in
                later_ends address (end_of r) (end_of row) (omega arith)
          ] refl
          ∙ sym (ap (λ b. ends_after address (cond b (option_or (last_to bound rows) (Some r)) None)) (le-leb r.start bound before))
    ]

-- so the map meets pages there
pub meets_last : (address pages bound low high : ℕ) (rows : List RegionRow) → bound + 1 ≡ address + pages * 4096 → AreInOrder low high rows → meets (map_of region_of rows) address pages ≡ ends_after address (last_to bound rows)
meets_last address pages bound low high rows e is =
    ap (list_any (overlap_at address pages)) (entries-map_of region_of low high rows is) ∙ overlap_last address pages bound low high rows e is
