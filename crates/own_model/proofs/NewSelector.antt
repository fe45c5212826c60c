-- The new selector is the least positive number that is not in use.
use Rattle.std.proofs.Common.{◌≡◌, ℕ, ◌+◌, ◌<◌, ◌≤◌, ◌≢◌, true, false, cond, eqb, T, List, [], ◌∷◌, map, length, is_some, IsSome, Some, refl, sym, ap, ◌∙◌, eqb-true, true≢false, nat_cmp, is_lt, Less, arith}
use Rattle.std.proofs.lemmas.Bool.{eqb-false}
use Rattle.std.specs.Prelude.{None}
use Rattle.std.specs.Cmp.{ranked}
use Rattle.std.specs.FinMap.{get, entries, entries_sorted, get-entries, find, is_sorted}
use Rattle.std.specs.FinMap.Entries.{below_all}
use Rattle.own_model.specs.NatMap.{NatMap, least_gap}
use Rattle.own_model.specs.OwnState.{IsLeastUnused, new_selector}
use Rattle.own_model.proofs.EntryLemmas.{value_of-cons}
use Rattle.own_model.proofs.NatMapLemmas.{both_parts, is_less}
use Rattle.std.proofs.lemmas.Bool.Decides.{nat_tests}

-- ---- the least gap in rising numbers

-- a number that the order puts below another is less
below_from_test : (a b : ℕ) → T (is_lt (nat_cmp a b)) → a < b
below_from_test a b h = ranked a b Less (sym (is_less _ h))

module _ {X : Type 0} where
  -- the keys of entries, in order
  abbrev keys_of : List (ℕ × X) → List ℕ
  keys_of es = map (λ e. e.0) es

  -- it is no less than where the search began
  least_gap_from : (n : ℕ) (es : List (ℕ × X)) → n ≤ least_gap n (keys_of es)
  least_gap_from n [] = omega arith
  least_gap_from n (e ∷ es) = grind (arith, nat_tests, least_gap_from (n + 1) es, least_gap_from n es)

  -- it goes past no more numbers than there are
  least_gap_within : (n : ℕ) (es : List (ℕ × X)) → least_gap n (keys_of es) ≤ n + length es
  least_gap_within n [] = omega arith
  least_gap_within n (e ∷ es) = grind (arith, nat_tests, least_gap_within (n + 1) es, least_gap_within n es)

  -- all before it are there
  least_gap_filled : (n t : ℕ) (es : List (ℕ × X)) → n ≤ t → t < least_gap n (keys_of es) → IsSome (find nat_cmp t es)
  least_gap_filled n t [] from below = absurd (omega arith)
  least_gap_filled n t (e ∷ es) from below =
      elim (eqb t e.0) as (λ c. eqb t e.0 ≡ c → IsSome (find nat_cmp t (e ∷ es))) [
        | true ↦ λ here. ap is_some (value_of-cons t e es ∙ ap (λ c. cond c (Some e.1) (find nat_cmp t es)) here)
        | false ↦ λ other. ap is_some (value_of-cons t e es ∙ ap (λ c. cond c (Some e.1) (find nat_cmp t es)) other)
            ∙ elim (eqb e.0 n) as (λ b. eqb e.0 n ≡ b → t < cond b (least_gap (n + 1) (keys_of es)) (least_gap n (keys_of es)) → IsSome (find nat_cmp t es)) [
              | true ↦ λ at h.
                  let apart = eqb-false t e.0 other in
                  let first = eqb-true e.0 n at in
                  least_gap_filled (n + 1) t es (omega arith) h
              | false ↦ λ _ h. least_gap_filled n t es from h
            ] refl below
      ] refl

  -- numbers above n leave n free
  least_gap_above : (n k : ℕ) (es : List (ℕ × X)) → n < k → T (below_all nat_cmp k es) → least_gap n (keys_of es) ≡ n
  least_gap_above n k [] l h = refl
  least_gap_above n k (e ∷ es) l h =
      let parts = both_parts _ _ h in
      let above = below_from_test k e.0 parts.0 in
      elim (eqb e.0 n) as (λ b. eqb e.0 n ≡ b → cond b (least_gap (n + 1) (keys_of es)) (least_gap n (keys_of es)) ≡ n) [
        | true ↦ λ at. absurd (let first = eqb-true e.0 n at in omega arith)
        | false ↦ λ _. least_gap_above n k es l parts.1
      ] refl

  -- it is none of the rising numbers
  least_gap_apart : (n : ℕ) (e : ℕ × X) (es : List (ℕ × X)) → T (is_sorted nat_cmp (e ∷ es)) → least_gap n (keys_of (e ∷ es)) ≢ e.0
  least_gap_apart n e es h is = grind (arith, nat_tests, both_parts, eqb-true, least_gap_from, eqb-false, least_gap_above)

  -- no sorted entry has it as its key
  least_gap_free : (n : ℕ) (es : List (ℕ × X)) → T (is_sorted nat_cmp es) → find nat_cmp (least_gap n (keys_of es)) es ≡ None
  least_gap_free n [] h = refl
  least_gap_free n (e ∷ es) h =
      let parts = both_parts _ _ h in
      let gap = least_gap n (keys_of (e ∷ es)) in
      value_of-cons gap e es
      ∙ elim (eqb gap e.0) as (λ c. eqb gap e.0 ≡ c → cond c (Some e.1) (find nat_cmp gap es) ≡ None) [
        | true ↦ λ at. absurd (least_gap_apart n e es h (eqb-true gap e.0 at))
        | false ↦ λ _. elim (eqb e.0 n) as (λ b. find nat_cmp (cond b (least_gap (n + 1) (keys_of es)) (least_gap n (keys_of es))) es ≡ None) [
          | true ↦ least_gap_free (n + 1) es parts.1
          | false ↦ least_gap_free n es parts.1
        ]
      ] refl

-- ---- the new selector

module _ {X : Type 0} (m : NatMap X) where
  -- it is the least positive number that is not in use
  pub IsLeastUnused-new_selector : IsLeastUnused m (new_selector m)
  unfolding new_selector
  IsLeastUnused-new_selector = record {
    positive = let from = least_gap_from 1 (entries m) in omega arith;
    free = get-entries m _ ∙ least_gap_free 1 (entries m) (entries_sorted m);
    least = λ t positive below. ap is_some (get-entries m t) ∙ least_gap_filled 1 t (entries m) (omega arith) below;
  }

  -- it is positive
  pub new_selector_positive : 0 < new_selector m
  new_selector_positive = IsLeastUnused-new_selector.positive

  -- nothing is under it
  pub new_selector_free : get m (new_selector m) ≡ None
  new_selector_free = IsLeastUnused-new_selector.free

  -- each positive number below it is in use
  pub new_selector_least : (t : ℕ) → 0 < t → t < new_selector m → IsSome (get m t)
  new_selector_least = IsLeastUnused-new_selector.least

  -- and it is the only number of which these hold
  pub new_selector_is : (s : ℕ) → 0 < s → get m s ≡ None → ((t : ℕ) → 0 < t → t < s → IsSome (get m t)) → new_selector m ≡ s
  new_selector_is s positive free below =
      let own = new_selector_positive in
      let not_above : ¬ (s < new_selector m) = λ l. true≢false (sym (new_selector_least s positive l) ∙ ap is_some free) in
      let not_below : ¬ (new_selector m < s) = λ l. true≢false (sym (below _ own l) ∙ ap is_some new_selector_free) in
      grind arith
