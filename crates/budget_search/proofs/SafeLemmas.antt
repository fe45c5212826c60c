-- The safe budget of intervals, and what holds for budgets that suffice alike.
use Rattle.std.proofs.lemmas.Bool.Decides.{nat_tests}
use Rattle.std.proofs.lemmas.Bool.{cases_lt, or_from, or_left, or_right}
use Rattle.std.proofs.Common.{arith, ◌≡◌, ℕ, ◌<◌, ◌≤◌, ◌&&◌, ◌||◌, Bool, true, false, List, [], ◌∷◌, nat_eq, nat_le, nat_lt, refl, sym, ap, ◌∙◌, subst, ⊎_elim}
use Rattle.std.specs.Prelude.{if◌then◌else◌, max, Option, Some, None, IfSome}
use Rattle.own_model.specs.Amounts.{Amounts}
use Rattle.budget_theorems.specs.Need.{IsBelow}
use Rattle.budget_search.proofs.OrderLemmas.{begin_of, first_is_least, least_of, ordered_rest}
use Rattle.budget_search.specs.BudgetIntervals.{is_below, covers, lowest_of, safe_before, safe_of, serves, AreOrdered, ArePast}
use Rattle.budget_search.specs.Sufficient.{HasLeast, HasSafe, IsLeast, IsSafe, IsWithin}
use Rattle.budget_search.specs.declared.budget_intervals.BudgetInterval.{BudgetInterval}

-- ---- tests

only_right : (a b : Bool) → a ≡ false → (a || b) ≡ true → b ≡ true
only_right true b first one = absurd (cc)
only_right false b first one = one

uncovered_past : (from ram end needed caps : ℕ) → end ≤ ram → (nat_le from ram && nat_lt ram end && nat_le needed caps) ≡ false
uncovered_past from ram end needed caps past = grind (arith, nat_tests, past)

covered_below : (from ram end needed caps : ℕ) → from ≤ ram → ram < end → needed ≤ caps → (nat_le from ram && nat_lt ram end && nat_le needed caps) ≡ true
covered_below from ram end needed caps above below few = grind (arith, nat_tests, above, below, few)

covered_above : (from ram needed caps : ℕ) → from ≤ ram → needed ≤ caps → (nat_le from ram && true && nat_le needed caps) ≡ true
covered_above from ram needed caps above few = grind (arith, nat_tests, above, few)

-- ---- intervals

itself : (budget : Amounts) → IsWithin budget budget
itself budget = record { ram = omega arith; caps = omega arith }

-- nothing is past no end
none_past : (rows : List BudgetInterval) → ArePast None rows → rows ≡ []
none_past [] past = refl
none_past (row ∷ rows) past = absurd past.0

-- what intervals past an end cover is past it too
served_past : (end : ℕ) (rows : List BudgetInterval) (budget : Amounts) → ArePast (Some end) rows → serves rows budget ≡ true → end ≤ budget.ram
served_past end [] budget past served = absurd (cc)
served_past end (row ∷ rows) budget past served =
    let first = past.0 in
    elim (covers row budget) as (λ b. covers row budget ≡ b → (b || serves rows budget) ≡ true → end ≤ budget.ram) [
      | true ↦ λ here _. grind (arith, nat_tests, here, first)
      | false ↦ λ _ there. served_past end rows budget past.1 there
    ] refl served

none_some : (safe : Amounts) → Some safe ≡ None → ⊥
none_some safe is = absurd (cc)

module _ (row : BudgetInterval) (rows : List BudgetInterval) (most : Amounts) (is : AreOrdered most.caps most.ram (row ∷ rows)) where
  abbrev all : List BudgetInterval
  all = row ∷ rows

  least : IsLeast (serves all) most (begin_of row rows)
  least = first_is_least row rows most is

  -- an interval without an end
  alone : row.ram_below ≡ None → IsSafe (serves all) most (begin_of row rows)
  alone ends = record {
    within = least.within;
    from = λ budget within above. or_left (covers row budget) (serves rows budget)
        (subst (λ end. (nat_le row.ram_from budget.ram && is_below budget.ram end && nat_le row.caps_from budget.caps) ≡ true) (sym ends)
        (covered_above row.ram_from budget.ram row.caps_from budget.caps above.ram above.caps));
    ram = λ budget within safe. least.ram budget within (safe budget within (itself budget));
    caps = λ budget within safe level. least.caps budget within (safe budget within (itself budget)) level;
  }

  -- one with an end
  module _ (end : ℕ) (ends : row.ram_below ≡ Some end) where
    starts : row.ram_from < end
    starts = subst (λ e. IsBelow row.ram_from e) ends is.begin.0

    up : end ≤ most.ram
    up = subst (λ e. IfSome e (λ n. n ≤ most.ram)) ends is.within.0.end

    past : ArePast (Some end) rows
    past = subst (λ e. ArePast e rows) ends is.apart.0

    uncovered : (budget : Amounts) → end ≤ budget.ram → covers row budget ≡ false
    uncovered budget order =
        subst (λ e. (nat_le row.ram_from budget.ram && is_below budget.ram e && nat_le row.caps_from budget.caps) ≡ false) (sym ends)
        (uncovered_past row.ram_from budget.ram end row.caps_from budget.caps order)

    covered : (budget : Amounts) → row.ram_from ≤ budget.ram → budget.ram < end → row.caps_from ≤ budget.caps → covers row budget ≡ true
    covered budget above below few =
        subst (λ e. (nat_le row.ram_from budget.ram && is_below budget.ram e && nat_le row.caps_from budget.caps) ≡ true) (sym ends)
        (covered_below row.ram_from budget.ram end row.caps_from budget.caps above below few)

    later : (budget : Amounts) → end ≤ budget.ram → serves all budget ≡ true → serves rows budget ≡ true
    later budget order served = only_right (covers row budget) (serves rows budget) (uncovered budget order) served

    none_safe : serves rows most ≡ false → serves all most ≡ false
    none_safe none = or_from (covers row most) (serves rows most) (uncovered most up) none

    module _ (safe : Amounts) (others : IsSafe (serves rows) most safe) where
      -- the others begin right there
      joined : end ≡ safe.ram → IsSafe (serves all) most (record { ram = row.ram_from; caps = max row.caps_from safe.caps })
      joined same =
          let few = is.within.0.few in
          let few_more = others.within.caps in
          record {
            within = record { ram = is.within.0.ram; caps = omega (arith, few, few_more) };
            from = λ budget within above.
                let here = above.ram in
                let enough = above.caps in
                ⊎_elim
                (λ below. or_left (covers row budget) (serves rows budget) (covered budget here below (omega (arith, enough))))
                (λ order. or_right (covers row budget) (serves rows budget) (others.from budget within (record { ram = omega (arith, order, same); caps = omega (arith, enough) })))
                (cases_lt budget.ram end);
            ram = λ budget within safe. least.ram budget within (safe budget within (itself budget));
            caps = λ budget within safe_from level.
                let first = least.caps budget within (safe_from budget within (itself budget)) level in
                let second = others.caps (record { ram = safe.ram; caps = budget.caps }) (record { ram = others.within.ram; caps = within.caps })
                (λ other in_most above.
                let from = above.ram in
                later other (omega (arith, same, from)) (safe_from other in_most (record { ram = omega (arith, level, starts, same, from); caps = above.caps })))
                refl in
                omega (arith, first, second);
          }

      -- or above
      apart : end < safe.ram → IsSafe (serves all) most safe
      apart less = record {
        within = others.within;
        from = λ budget within above. or_right (covers row budget) (serves rows budget) (others.from budget within above);
        ram = λ budget within safe_from.
            let high = within.ram in
            let found = others.ram (record { ram = max budget.ram end; caps = budget.caps }) (record { ram = omega (arith, high, up); caps = within.caps })
            (λ other in_most above.
            let from = above.ram in
            later other (omega (arith, from)) (safe_from other in_most (record { ram = omega (arith, from); caps = above.caps }))) in
            omega (arith, found, less);
        caps = λ budget within safe_from level. others.caps budget within
            (λ other in_most above. let from = above.ram in later other (omega (arith, level, less, from)) (safe_from other in_most above)) level;
      }

      begins : end ≤ safe.ram
      begins = served_past end rows safe past (others.from safe others.within (itself safe))

      either : HasSafe (serves all) most (safe_before row (Some end) (Some safe))
      either = elim (nat_eq end safe.ram) as
          (λ b. nat_eq end safe.ram ≡ b → HasSafe (serves all) most (if b then Some (record { ram = row.ram_from; caps = max row.caps_from safe.caps }) else Some safe)) [
            | true ↦ λ same. joined (grind (arith, nat_tests, same))
            | false ↦ λ other. apart (grind (arith, nat_tests, other, begins))
          ] refl

  safe_by : (end : Option ℕ) (safe : Option Amounts) → row.ram_below ≡ end → safe_of rows ≡ safe → HasSafe (serves rows) most safe →
      HasSafe (serves all) most (safe_before row end safe)
  safe_by None None ends found others = alone ends
  safe_by (Some end) None ends found others = none_safe end ends others
  safe_by None (Some safe) ends found others = absurd (none_some safe (sym found ∙ ap safe_of (none_past rows (subst (λ e. ArePast e rows) ends is.apart.0))))
  safe_by (Some end) (Some safe) ends found others = either end ends safe others

pub safest_of : (most : Amounts) (rows : List BudgetInterval) → AreOrdered most.caps most.ram rows → HasSafe (serves rows) most (safe_of rows)
safest_of most [] is = refl
safest_of most (row ∷ rows) is =
    safe_by row rows most is row.ram_below (safe_of rows) refl refl (safest_of most rows (ordered_rest most.caps most.ram row rows is))

-- ---- budgets that suffice alike

module _ (one other : Amounts → Bool) (most : Amounts) (same : (budget : Amounts) → IsWithin most budget → one budget ≡ other budget) where
  pub least_alike : (least : Option Amounts) → HasLeast one most least → HasLeast other most least
  least_alike None has = λ budget within. sym (same budget within) ∙ has budget within
  least_alike (Some least) has = record {
    within = has.within;
    sufficient = sym (same least has.within) ∙ has.sufficient;
    ram = λ budget within fine. has.ram budget within (same budget within ∙ fine);
    caps = λ budget within fine level. has.caps budget within (same budget within ∙ fine) level;
  }

  pub safe_alike : (safe : Option Amounts) → HasSafe one most safe → HasSafe other most safe
  safe_alike None has = sym (same most (itself most)) ∙ has
  safe_alike (Some safe) has = record {
    within = has.within;
    from = λ budget within above. sym (same budget within) ∙ has.from budget within above;
    ram = λ budget within from. has.ram budget within (λ b w above. same b w ∙ from b w above);
    caps = λ budget within from level. has.caps budget within (λ b w above. same b w ∙ from b w above) level;
  }

-- ---- budgets that exactly these intervals cover

module _ (suffices : Amounts → Bool) (most : Amounts) (rows : List BudgetInterval) (is : AreOrdered most.caps most.ram rows)
    (exact : (budget : Amounts) → budget.caps ≤ most.caps → budget.ram ≤ most.ram → serves rows budget ≡ suffices budget) where
  pub has_least : HasLeast suffices most (lowest_of rows)
  has_least = least_alike (serves rows) suffices most (λ budget within. exact budget within.caps within.ram) (lowest_of rows) (least_of most rows is)

  pub has_safe : HasSafe suffices most (safe_of rows)
  has_safe = safe_alike (serves rows) suffices most (λ budget within. exact budget within.caps within.ram) (safe_of rows) (safest_of most rows is)
