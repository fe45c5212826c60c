-- Lists in which the first element that passes a test is found, changed or removed after elements that don't pass.
use Rattle.std.proofs.Common.{rules, ◌≡◌, true, false, Bool, List, [], ◌∷◌, ◌++◌, find, map, Some, refl, sym, ap, ◌∙◌}
use Rattle.std.proofs.lemmas.Option.{none-some}
use Rattle.std.specs.Prelude.{None}
use Rattle.own_model.specs.Nodes.{with_first, without_first}

module _ {X : Type 0} (test : X → Bool) where
  -- if none passes, the first doesn't
  none_first : (x : X) (rest : List X) → find test (x ∷ rest) ≡ None → test x ≡ false
  none_first x rest none = search (rules, none-some)

  -- nor does one of the others
  none_rest : (x : X) (rest : List X) → find test (x ∷ rest) ≡ None → find test rest ≡ None
  none_rest x rest none = let first = none_first x rest none in sym (rw first refl) ∙ none

  pub find_behind : (xs : List X) (x : X) (rest : List X) → find test xs ≡ None → test x ≡ true → find test (xs ++ x ∷ rest) ≡ Some x
  find_behind [] x rest none is = rw is refl
  find_behind (y ∷ xs) x rest none is = rw (none_first y xs none) (find_behind xs x rest (none_rest y xs none) is)

  pub with_behind : (change : X → X) (xs : List X) (x : X) (rest : List X) → find test xs ≡ None → test x ≡ true →
      with_first test change (xs ++ x ∷ rest) ≡ xs ++ change x ∷ rest
  with_behind change [] x rest none is = rw is refl
  with_behind change (y ∷ xs) x rest none is = rw (none_first y xs none) (ap (λ (more : List X). y ∷ more) (with_behind change xs x rest (none_rest y xs none) is))

  pub without_behind : (xs : List X) (x : X) (rest : List X) → find test xs ≡ None → test x ≡ true → without_first test (xs ++ x ∷ rest) ≡ xs ++ rest
  without_behind [] x rest none is = rw is refl
  without_behind (y ∷ xs) x rest none is = rw (none_first y xs none) (ap (λ (more : List X). y ∷ more) (without_behind xs x rest (none_rest y xs none) is))

module _ {X Y : Type 0} (f : X → Y) where
  pub append_map : (xs ys : List X) → map f (xs ++ ys) ≡ map f xs ++ map f ys
  append_map [] ys = refl
  append_map (x ∷ xs) ys = ap (λ (rest : List Y). f x ∷ rest) (append_map xs ys)
