-- The first of a list that passes a test, by its place.
use Rattle.std.proofs.lemmas.Bool.Decides.{nat_tests}
use Rattle.std.proofs.Common.{arith, ◌≡◌, ℕ, suc, ◌+◌, ◌<◌, ◌≤◌, Bool, true, false, cond, List, [], ◌∷◌, length, set, get_or, refl, sym, ap, ◌∙◌}
use Rattle.std.specs.Prelude.{Option, Some, None, position, not}
use Rattle.std.specs.List.{remove, position_or_len}
use Rattle.own_model.specs.Nodes.{with_first, without_first}

module _ {X : Type 0} (test : X → Bool) where
  abbrev at : List X → ℕ
  at xs = position_or_len test xs

  after_first : (xs : List X) → suc (at xs) ≡ 1 + at xs
  after_first xs = omega arith

  with_place : (change : X → X) (xs : List X) (d : X) → at xs < length xs → with_first test change xs ≡ set xs (at xs) (change (get_or xs (at xs) d))
  with_place change [] d there = absurd (omega (arith, there))
  with_place change (x ∷ xs) d there =
      elim (test x) as
      (λ b. cond (not b) (1 + at xs) 0 < suc (length xs) →
      cond b (change x ∷ xs) (x ∷ with_first test change xs) ≡ set (x ∷ xs) (cond (not b) (1 + at xs) 0) (change (get_or (x ∷ xs) (cond (not b) (1 + at xs) 0) d))) [
        | true ↦ λ _. refl
        | false ↦ λ less.
            ap (λ rest. x ∷ rest) (with_place change xs d (omega (arith, less)))
            ∙ ap (λ j. set (x ∷ xs) j (change (get_or (x ∷ xs) j d))) (after_first xs)
      ] there

  without_place : (xs : List X) → at xs < length xs → without_first test xs ≡ remove xs (at xs)
  without_place [] there = absurd (omega (arith, there))
  without_place (x ∷ xs) there =
      elim (test x) as
      (λ b. cond (not b) (1 + at xs) 0 < suc (length xs) → cond b xs (x ∷ without_first test xs) ≡ remove (x ∷ xs) (cond (not b) (1 + at xs) 0)) [
        | true ↦ λ _. refl
        | false ↦ λ less. ap (λ rest. x ∷ rest) (without_place xs (omega (arith, less))) ∙ ap (λ j. remove (x ∷ xs) j) (after_first xs)
      ] there

  -- and where none passes
  record NonePasses (xs : List X) : Type 0 where
    kept : (change : X → X) → with_first test change xs ≡ xs
    whole : without_first test xs ≡ xs

  none_passes : (xs : List X) → length xs ≤ at xs → NonePasses xs
  none_passes [] out = record { kept = λ change. refl; whole = refl }
  none_passes (x ∷ xs) out =
      elim (test x) as
      (λ b. test x ≡ b → suc (length xs) ≤ cond (not b) (1 + at xs) 0 → NonePasses (x ∷ xs)) [
        | true ↦ λ is more. absurd (omega (arith, more))
        | false ↦ λ is more.
            let rest = none_passes xs (omega (arith, more)) in
            record {
              kept = λ change. rw is (ap (λ ys. x ∷ ys) (rest.kept change));
              whole = rw is (ap (λ ys. x ∷ ys) rest.whole);
            }
      ] refl out

  -- ---- by the place that is found

  is_at : (xs : List X) (i : ℕ) → position test xs ≡ Some i → (at xs ≡ i) × (at xs < length xs)
  is_at xs i is = (grind (arith, nat_tests, is), grind (arith, nat_tests, is))

  is_nowhere : (xs : List X) → position test xs ≡ None → length xs ≤ at xs
  is_nowhere xs is = grind (arith, nat_tests, is)

  pub with_there : (change : X → X) (xs : List X) (i : ℕ) (d : X) → position test xs ≡ Some i → with_first test change xs ≡ set xs i (change (get_or xs i d))
  with_there change xs i d is =
      let there = is_at xs i is in with_place change xs d there.1 ∙ ap (λ j. set xs j (change (get_or xs j d))) there.0

  pub with_nowhere : (change : X → X) (xs : List X) → position test xs ≡ None → with_first test change xs ≡ xs
  with_nowhere change xs is = (none_passes xs (is_nowhere xs is)).kept change

  pub without_there : (xs : List X) (i : ℕ) → position test xs ≡ Some i → without_first test xs ≡ remove xs i
  without_there xs i is = let there = is_at xs i is in without_place xs there.1 ∙ ap (λ j. remove xs j) there.0

  pub without_nowhere : (xs : List X) → position test xs ≡ None → without_first test xs ≡ xs
  without_nowhere xs is = (none_passes xs (is_nowhere xs is)).whole
