-- Services of a list, one after another.
use Rattle.std.proofs.Common.{◌≡◌, ℕ, ◌+◌, List, ◌∷◌, ◌++◌, drop, Some, refl, sym, ap, ◌∙◌}
use Rattle.std.specs.List.{flat_map, slice_get}
use Rattle.std.proofs.lemmas.List.{append_assoc, drop_more}
use Rattle.std.proofs.lemmas.Option.{get_or_from_slice_get, slice_get_within}

-- what is left of a list from an element on
pub left_from_got : {X : Type 0} (xs : List X) (n : ℕ) (x : X) → slice_get xs n ≡ Some x → drop n xs ≡ x ∷ drop (n + 1) xs
left_from_got xs n x got =
    drop_more xs n x (slice_get_within xs n x got) ∙ ap (λ y. y ∷ drop (n + 1) xs) (get_or_from_slice_get xs n x x got)

-- what is made of one element more, and what is to be made of the others
pub one_more : {X R : Type 0} (one : X → List R) (rest : List X → List R) (xs : List X) (n : ℕ) (x : X) (old new all : List R)
    → ((ys : List X) → rest (x ∷ ys) ≡ one x ++ rest ys) → slice_get xs n ≡ Some x → new ≡ old ++ one x → old ++ rest (drop n xs) ≡ all
    → new ++ rest (drop (n + 1) xs) ≡ all
one_more one rest xs n x old new all made got added before =
    ap (λ m. m ++ rest (drop (n + 1) xs)) added
    ∙ append_assoc old (one x) (rest (drop (n + 1) xs))
    ∙ ap (λ left. old ++ left) (sym (ap rest (left_from_got xs n x got) ∙ made (drop (n + 1) xs)))
    ∙ before

-- the same for what is made of each service
pub one_service_more : {R : Type 0} (f : List ℕ → List R) (names : List (List ℕ)) (n : ℕ) (name : List ℕ) (old new all : List R)
    → slice_get names n ≡ Some name → new ≡ old ++ f name → old ++ flat_map f (drop n names) ≡ all
    → new ++ flat_map f (drop (n + 1) names) ≡ all
one_service_more f names n name old new all got added before =
    one_more f (flat_map f) names n name old new all (λ names. refl) got added before
