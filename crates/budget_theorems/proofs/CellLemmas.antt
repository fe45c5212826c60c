-- What a cell's bounds say of the needs that made it.
use Rattle.std.proofs.lemmas.Bool.Decides.{nat_tests}
use Rattle.std.proofs.Common.{arith, ◌≡◌, ℕ, ◌<◌, ◌≤◌, ◌&&◌, Bool, true, false, List, [], ◌∷◌, nat_lt, nat_le, refl, sym, ◌∙◌, true≢false}
use Rattle.std.specs.List.{AllByRecursion}
use Rattle.std.specs.Prelude.{if◌then◌else◌, Option, Some, None, max, not}
use Rattle.own_model.specs.Amounts.{Amounts}
use Rattle.budget_theorems.specs.Need.{Need, Cell, covers_ram, covers_caps, lesser, narrowed, cell_by, IsBelow, HasRam, IsIn, ComesOutAlike, greatest_choice}

-- below the lesser of two is below both
below_first : (x n : ℕ) (other : Option ℕ) → IsBelow x (lesser n other) → x < n
below_first x n None below = below
below_first x n (Some end) below = grind (arith, below)

below_second : (x n : ℕ) (other : Option ℕ) → IsBelow x (lesser n other) → IsBelow x other
below_second x n None below = tt
below_second x n (Some end) below = grind (arith, below)

below_both : (x n : ℕ) (other : Option ℕ) → x < n → IsBelow x other → IsBelow x (lesser n other)
below_both x n None less below = less
below_both x n (Some end) less below = grind (arith, less, below)

-- what is at most a number is below what the number is below
pub starts_below : (x y : ℕ) (end : Option ℕ) → x ≤ y → IsBelow y end → IsBelow x end
starts_below x y None within below = tt
starts_below x y (Some end) within below = omega (arith, within, below)

-- ---- one need more

-- a number within bounds that a need has narrowed: by its bytes, which pass or fail
record Within (x from : ℕ) (end : Option ℕ) : Type 0 where
  enough : from ≤ x
  below : IsBelow x end

abbrev RamNarrowed : Bool → ℕ → ℕ → ℕ → Option ℕ → Type 0
RamNarrowed v n x from end = Within x (if v then max n from else from) (if v then end else lesser n end)

ram_of : (v : Bool) (n x from : ℕ) (end : Option ℕ) → RamNarrowed v n x from end → (v ≡ nat_le n x) × Within x from end
ram_of true n x from end is = (grind (arith, nat_tests, is.enough), record { enough = grind (arith, is.enough); below = is.below })
ram_of false n x from end is = (grind (arith, nat_tests, below_first x n end is.below), record { enough = is.enough; below = below_second x n end is.below })

ram_to : (v : Bool) (n x from : ℕ) (end : Option ℕ) → v ≡ nat_le n x → Within x from end → RamNarrowed v n x from end
ram_to true n x from end same is = record { enough = grind (arith, nat_tests, is.enough, same); below = is.below }
ram_to false n x from end same is = record { enough = is.enough; below = below_both x n end (grind (arith, nat_tests, same)) is.below }

-- by its capabilities, where its bytes pass
abbrev CapsNarrowed : Bool → Bool → ℕ → ℕ → ℕ → Option ℕ → Type 0
CapsNarrowed u v n x from end = Within x (if u && v then max n from else from) (if u && not v then lesser n end else end)

caps_of : (u v : Bool) (n x from : ℕ) (end : Option ℕ) → CapsNarrowed u v n x from end → (u ≡ true → v ≡ nat_le n x) × Within x from end
caps_of true true n x from end is = (λ _. grind (arith, nat_tests, is.enough), record { enough = grind (arith, is.enough); below = is.below })
caps_of true false n x from end is = (λ _. grind (arith, nat_tests, below_first x n end is.below), record { enough = is.enough; below = below_second x n end is.below })
caps_of false v n x from end is = (λ passes. absurd (true≢false (sym passes)), is)

caps_to : (u v : Bool) (n x from : ℕ) (end : Option ℕ) → (u ≡ true → v ≡ nat_le n x) → Within x from end → CapsNarrowed u v n x from end
caps_to true true n x from end same is = let e = same refl in record { enough = grind (arith, nat_tests, is.enough, e); below = is.below }
caps_to true false n x from end same is = let e = same refl in record { enough = is.enough; below = below_both x n end (grind (arith, nat_tests, e)) is.below }
caps_to false v n x from end same is = is

-- ---- cells

module _ (one other : Amounts) where
  narrowed_of : (need : Need) (c : Cell) → IsIn (narrowed one need c) other → ComesOutAlike one other need × IsIn c other
  narrowed_of need c is =
      let ram = ram_of (covers_ram one need) need.ram other.ram c.ram_from c.ram_below (record { enough = is.ram.enough; below = is.ram.below }) in
      let caps = caps_of (covers_ram one need) (covers_caps one need) need.caps other.caps c.caps_from c.caps_below (record { enough = is.caps.enough; below = is.caps.below }) in (
        record { ram = ram.0; caps = caps.0 },
        record { ram = record { enough = ram.1.enough; below = ram.1.below }; caps = record { enough = caps.1.enough; below = caps.1.below } },
      )

  narrowed_to : (need : Need) (c : Cell) → ComesOutAlike one other need → IsIn c other → IsIn (narrowed one need c) other
  narrowed_to need c alike is =
      let ram = ram_to (covers_ram one need) need.ram other.ram c.ram_from c.ram_below alike.ram (record { enough = is.ram.enough; below = is.ram.below }) in
      let caps = caps_to (covers_ram one need) (covers_caps one need) need.caps other.caps c.caps_from c.caps_below alike.caps (record { enough = is.caps.enough; below = is.caps.below }) in
      record { ram = record { enough = ram.enough; below = ram.below }; caps = record { enough = caps.enough; below = caps.below } }

  -- a budget is in a cell exactly where each test comes out alike
  pub in_cell_of : (needs : List Need) → IsIn (cell_by one needs) other → AllByRecursion (ComesOutAlike one other) needs
  in_cell_of [] is = tt
  in_cell_of (need ∷ rest) is =
      let both = narrowed_of need (cell_by one rest) is in
      (both.0, in_cell_of rest both.1)

  pub in_cell_to : (needs : List Need) → AllByRecursion (ComesOutAlike one other) needs → IsIn (cell_by one needs) other
  in_cell_to [] each = record { ram = record { enough = omega arith; below = tt }; caps = record { enough = omega arith; below = tt } }
  in_cell_to (need ∷ rest) each = narrowed_to need (cell_by one rest) each.0 (in_cell_to rest each.1)

-- a budget is in its own cell
own_alike : (budget : Amounts) (needs : List Need) → AllByRecursion (ComesOutAlike budget budget) needs
own_alike budget [] = tt
own_alike budget (need ∷ rest) = (record { ram = refl; caps = λ _. refl }, own_alike budget rest)

pub in_own_cell : (budget : Amounts) (needs : List Need) → IsIn (cell_by budget needs) budget
in_own_cell budget needs = in_cell_to budget budget needs (own_alike budget needs)

-- ---- what leads to a first difference

-- a test that is to come out alike under another budget, or else brings its call in want there: bytes that fail, and those of a
-- choice that pass, do so there, and capabilities pass
pub record Leads (one other : Amounts) (need : Need) : Type 0 where
  pub fails : covers_ram one need ≡ false → covers_ram other need ≡ false
  pub chosen : need.choice ≡ true → covers_ram one need ≡ true → covers_ram other need ≡ true
  pub caps : covers_ram one need ≡ true → covers_caps one need ≡ false → covers_caps other need ≡ false

-- capabilities that fail do so below those that bound a cell above
caps_fail : (u v : Bool) (n x : ℕ) (end : Option ℕ) → IsBelow x (if u && not v then lesser n end else end) → IsBelow x end × (u ≡ true → v ≡ false → nat_le n x ≡ false)
caps_fail true true n x end is = (is, λ _ fails. absurd (true≢false fails))
caps_fail true false n x end is = (below_second x n end is, λ _ _. grind (arith, nat_tests, below_first x n end is))
caps_fail false v n x end is = (is, λ passes. absurd (true≢false (sym passes)))

-- so for each need
few_caps : (one other : Amounts) (need : Need) (rest : List Need) → IsBelow other.caps (cell_by one (need ∷ rest)).caps_below →
    IsBelow other.caps (cell_by one rest).caps_below × (covers_ram one need ≡ true → covers_caps one need ≡ false → covers_caps other need ≡ false)
few_caps one other need rest few = caps_fail (covers_ram one need) (covers_caps one need) need.caps other.caps (cell_by one rest).caps_below few

-- tests lead within the RAM of a cell
pub leads_within : (one other : Amounts) (needs : List Need) → IsBelow other.caps (cell_by one needs).caps_below → HasRam (cell_by one needs) other.ram →
    AllByRecursion (Leads one other) needs
leads_within one other [] few has = tt
leads_within one other (need ∷ rest) few has =
    let c = cell_by one rest in
    let split = few_caps one other need rest few in
    let ram = ram_of (covers_ram one need) need.ram other.ram c.ram_from c.ram_below (record { enough = has.enough; below = has.below }) in (
      record { fails = λ e. sym ram.0 ∙ e; chosen = λ _ e. sym ram.0 ∙ e; caps = split.1 },
      leads_within one other rest split.0 (record { enough = ram.1.enough; below = ram.1.below }),
    )

-- a choice that passed is no more than the greatest
choice_within : (choice passes : Bool) (n g x : ℕ) → (if choice && passes then max n g else g) ≤ x → (g ≤ x) × (choice ≡ true → passes ≡ true → n ≤ x)
choice_within true true n g x most = (grind (arith, most), λ _ _. grind (arith, most))
choice_within true false n g x most = (most, λ _ e. absurd (true≢false (sym e)))
choice_within false passes n g x most = (most, λ e _. absurd (true≢false (sym e)))

-- tests lead from the greatest choice on, up to the budget
pub leads_below : (one other : Amounts) (needs : List Need) → IsBelow other.caps (cell_by one needs).caps_below → greatest_choice one needs ≤ other.ram → other.ram ≤ one.ram →
    AllByRecursion (Leads one other) needs
leads_below one other [] few most within = tt
leads_below one other (need ∷ rest) few most within =
    let split = few_caps one other need rest few in
    let chosen = choice_within need.choice (covers_ram one need) need.ram (greatest_choice one rest) other.ram most in (
      record {
        fails = λ e. grind (arith, nat_tests, e, within);
        chosen = λ is passes. let m = chosen.1 is passes in grind (arith, nat_tests, m);
        caps = split.1;
      },
      leads_below one other rest split.0 chosen.0 within,
    )

-- a cell begins no higher than its budget
pub begins_within : (one : Amounts) (needs : List Need) → (cell_by one needs).ram_from ≤ one.ram
begins_within one needs = (in_own_cell one needs).ram.enough

-- where capabilities aren't past a cell's, RAM of it and as many capabilities as were ever needed are in it
pub in_by_parts : (one other : Amounts) (needs : List Need) → IsBelow other.caps (cell_by one needs).caps_below → HasRam (cell_by one needs) other.ram →
    nat_lt other.caps (cell_by one needs).caps_from ≡ false → IsIn (cell_by one needs) other
in_by_parts one other needs few has enough = record {
  ram = has;
  caps = record { enough = grind (arith, nat_tests, enough); below = few };
}

-- in a cell there are as many as were ever needed
pub enough_in : (one other : Amounts) (needs : List Need) → IsIn (cell_by one needs) other → nat_lt other.caps (cell_by one needs).caps_from ≡ false
enough_in one other needs is = let e = is.caps.enough in grind (arith, nat_tests, e)
