-- What holds of each element of a list.
use Rattle.std.proofs.Common.{List, [], ◌∷◌, map}
use Rattle.std.specs.List.{AllByRecursion}

-- of each that a function gives
pub of_mapped : {A X : Type 0} (P : X → Type 0) (f : A → X) (xs : List A) → AllByRecursion P (map f xs) → AllByRecursion (λ a. P (f a)) xs
of_mapped P f [] each = tt
of_mapped P f (x ∷ xs) each = (each.0, of_mapped P f xs each.1)

-- and the other way round
pub to_mapped : {A X : Type 0} (P : X → Type 0) (f : A → X) (xs : List A) → AllByRecursion (λ a. P (f a)) xs → AllByRecursion P (map f xs)
to_mapped P f [] each = tt
to_mapped P f (x ∷ xs) each = (each.0, to_mapped P f xs each.1)
