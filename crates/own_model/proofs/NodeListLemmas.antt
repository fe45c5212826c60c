-- Lists of which the first element that passes a test is changed or removed, or to which one is added.
use Rattle.std.proofs.lemmas.Bool.Decides.{nat_tests}
use Rattle.std.proofs.Common.{arith, ◌≡◌, ℕ, ◌+◌, Bool, true, false, cond, List, [], ◌∷◌, Some, refl, sym, ap, subst, ◌∙◌, find, map, sum_by}
use Rattle.std.proofs.lemmas.List.Sums.{sum_by-cons}
use Rattle.std.proofs.lemmas.Option.{none-some, same_Some}
use Rattle.std.specs.Prelude.{None, IsSome}
use Rattle.std.specs.List.{AllByRecursion}
use Rattle.std.specs.Option.{option_map}
use Rattle.own_model.specs.Nodes.{with_first, without_first}

module _ {X : Type 0} (test : X → Bool) where
  -- what is found passes the test
  pub found_passes : (xs : List X) (x : X) → find test xs ≡ Some x → test x ≡ true
  found_passes [] x is = absurd (none-some x is)
  found_passes (y ∷ ys) x is = elim (test y) as (λ b. test y ≡ b → cond b (Some y) (find test ys) ≡ Some x → test x ≡ true) [
    | true ↦ λ yes here. subst (λ z. test z ≡ true) (same_Some y x here) yes
    | false ↦ λ _ there. found_passes ys x there
  ] refl is

  -- what holds of each holds of what is found
  pub found_holds : (P : X → Type 0) (xs : List X) (x : X) → AllByRecursion P xs → find test xs ≡ Some x → P x
  found_holds P [] x each is = absurd (none-some x is)
  found_holds P (y ∷ ys) x each is = elim (test y) as (λ b. cond b (Some y) (find test ys) ≡ Some x → P x) [
    | true ↦ λ here. subst P (same_Some y x here) each.0
    | false ↦ λ there. found_holds P ys x each.1 there
  ] is

  -- what nothing passes, nobody does
  pub none_passes : (xs : List X) → find test xs ≡ None → AllByRecursion (λ x. test x ≡ false) xs
  none_passes [] none = tt
  none_passes (x ∷ xs) none = elim (test x) as (λ b. test x ≡ b → cond b (Some x) (find test xs) ≡ None → (test x ≡ false) × AllByRecursion (λ y. test y ≡ false) xs) [
    | true ↦ λ _ here. absurd (none-some x (sym here))
    | false ↦ λ fails there. (fails, none_passes xs there)
  ] refl none

  -- ---- removed

  -- what holds of each holds of those that are left
  pub all_without : (P : X → Type 0) (xs : List X) → AllByRecursion P xs → AllByRecursion P (without_first test xs)
  all_without P [] each = each
  all_without P (x ∷ rest) each = grind (arith, nat_tests, all_without P rest each.1)

  -- what wasn't found isn't
  pub none_without : (other : X → Bool) (xs : List X) → find other xs ≡ None → find other (without_first test xs) ≡ None
  none_without other [] none = none
  none_without other (x ∷ rest) none =
      elim (other x) as (λ t. other x ≡ t → cond t (Some x) (find other rest) ≡ None → find other (cond (test x) rest (x ∷ without_first test rest)) ≡ None) [
        | true ↦ λ _ here. absurd (none-some x (sym here))
        | false ↦ λ fails there.
            elim (test x) as (λ b. find other (cond b rest (x ∷ without_first test rest)) ≡ None) [
              | true ↦ there
              | false ↦ ap (λ t. cond t (Some x) (find other (without_first test rest))) fails ∙ none_without other rest there
            ]
      ] refl none

  -- what is found, but for the one that is removed, is found
  pub finds_without : (other : X → Bool) (xs : List X) (gone : X) → find test xs ≡ Some gone → other gone ≡ false → IsSome (find other xs) → IsSome (find other (without_first test xs))
  finds_without other [] gone is fails some = absurd (none-some gone is)
  finds_without other (x ∷ rest) gone is fails some =
      elim (test x) as (λ b. cond b (Some x) (find test rest) ≡ Some gone → IsSome (find other (cond b rest (x ∷ without_first test rest)))) [
        | true ↦ λ here. let no : other x ≡ false = ap other (same_Some x gone here) ∙ fails in subst (λ t. IsSome (cond t (Some x) (find other rest))) no some
        | false ↦ λ there.
            elim (other x) as (λ t. IsSome (cond t (Some x) (find other rest)) → IsSome (cond t (Some x) (find other (without_first test rest)))) [
              | true ↦ λ _. refl
              | false ↦ λ rest_some. finds_without other rest gone there fails rest_some
            ] some
      ] is

  -- a sum is less by what the share of the one was
  pub sum-without : (f : X → ℕ) (xs : List X) (gone : X) → find test xs ≡ Some gone → sum_by f (without_first test xs) + f gone ≡ sum_by f xs
  sum-without f [] gone is = absurd (none-some gone is)
  sum-without f (x ∷ rest) gone is =
      elim (test x) as (λ b. cond b (Some x) (find test rest) ≡ Some gone → sum_by f (cond b rest (x ∷ without_first test rest)) + f gone ≡ sum_by f (x ∷ rest)) [
        | true ↦ λ here. let same : x ≡ gone = same_Some x gone here in subst (λ y. sum_by f rest + f y ≡ sum_by f (x ∷ rest)) same (omega (arith, sum_by-cons f x rest))
        | false ↦ λ there. omega (arith, sum_by-cons f x (without_first test rest), sum_by-cons f x rest, sum-without f rest gone there)
      ] is

  -- what no element passes that passes the test is found as before
  pub others_without : (other : X → Bool) → ((x : X) → test x ≡ true → other x ≡ false) → (xs : List X) → find other (without_first test xs) ≡ find other xs
  others_without other apart [] = refl
  others_without other apart (x ∷ rest) = grind (arith, nat_tests, apart, others_without other apart rest)

  -- ---- changed

  module _ (change : X → X) where
    -- what holds of each, changed or not
    pub all_with : (P : X → Type 0) → ((x : X) → P x → P (change x)) → (xs : List X) → AllByRecursion P xs → AllByRecursion P (with_first test change xs)
    all_with P kept [] each = each
    all_with P kept (x ∷ rest) each = grind (arith, nat_tests, all_with P kept rest each.1)

    -- a sum changes by what the share of the one does
    pub sum-with : (f : X → ℕ) (xs : List X) (one : X) → find test xs ≡ Some one → sum_by f (with_first test change xs) + f one ≡ sum_by f xs + f (change one)
    sum-with f [] one is = absurd (none-some one is)
    sum-with f (x ∷ rest) one is =
        elim (test x) as (λ b. cond b (Some x) (find test rest) ≡ Some one → sum_by f (cond b (change x ∷ rest) (x ∷ with_first test change rest)) + f one ≡ sum_by f (x ∷ rest) + f (change one)) [
          | true ↦ λ here. let same : x ≡ one = same_Some x one here in
              subst (λ y. sum_by f (change x ∷ rest) + f y ≡ sum_by f (x ∷ rest) + f (change y)) same (omega (arith, sum_by-cons f (change x) rest, sum_by-cons f x rest))
          | false ↦ λ there. omega (arith, sum_by-cons f x (with_first test change rest), sum_by-cons f x rest, sum-with f rest one there)
        ] is

    -- what no element passes that passes the test is found as before
    pub others_with : (other : X → Bool) → ((x : X) → test x ≡ true → other x ≡ false) → ((x : X) → test x ≡ true → other (change x) ≡ false) → (xs : List X) →
        find other (with_first test change xs) ≡ find other xs
    others_with other apart still [] = refl
    others_with other apart still (x ∷ rest) = grind (arith, nat_tests, apart, still, others_with other apart still rest)

    -- the one is found, changed, if it still passes
    pub finds_with : ((x : X) → test x ≡ true → test (change x) ≡ true) → (xs : List X) → find test (with_first test change xs) ≡ option_map change (find test xs)
    finds_with still [] = refl
    finds_with still (x ∷ rest) = grind (arith, nat_tests, still, finds_with still rest)

    -- a function of elements that doesn't see the change gives the same list
    pub map_with : {Y : Type 0} (f : X → Y) → ((x : X) → f (change x) ≡ f x) → (xs : List X) → map f (with_first test change xs) ≡ map f xs
    map_with f same [] = refl
    map_with f same (x ∷ rest) = grind (arith, nat_tests, same, map_with f same rest)

-- ---- a function of elements

module _ {X Y : Type 0} (f : X → Y) (test : Y → Bool) where
  -- the one that is removed is removed there
  pub map_without : (xs : List X) → map f (without_first (λ x. test (f x)) xs) ≡ without_first test (map f xs)
  map_without [] = refl
  map_without (x ∷ rest) = grind (arith, nat_tests, map_without rest)

  -- what is found there is of the one that is found
  pub find_map : (xs : List X) → find test (map f xs) ≡ option_map f (find (λ x. test (f x)) xs)
  find_map [] = refl
  find_map (x ∷ rest) = grind (arith, nat_tests, find_map rest)
