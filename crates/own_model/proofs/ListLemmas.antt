-- What holds of each element of a list.
use Rattle.std.proofs.Common.{zero, suc, ℕ, ◌<◌, ◌++◌, List, [], ◌∷◌, length, arith, set, get_or, map}
use Rattle.std.specs.List.{AllByRecursion}

-- what holds of each element holds of one
pub all_within : {X : Type 0} (P : X → Type 0) (xs : List X) (i : ℕ) (d : X) → AllByRecursion P xs → i < length xs → P (get_or xs i d)
all_within P [] i d each within = absurd (omega (arith, within))
all_within P (x ∷ xs) zero d each within = each.0
all_within P (x ∷ xs) (suc i) d each within = all_within P xs i d each.1 (omega (arith, within))

-- what holds of each element still does after a change to one of which it holds
pub all_set : {X : Type 0} (P : X → Type 0) (xs : List X) (i : ℕ) (y : X) → AllByRecursion P xs → P y → AllByRecursion P (set xs i y)
all_set P [] i y each here = each
all_set P (x ∷ xs) zero y each here = (here, each.1)
all_set P (x ∷ xs) (suc i) y each here = (each.0, all_set P xs i y each.1 here)

-- what holds of each element, and of the default, holds of what stands anywhere
pub all_at : {X : Type 0} (P : X → Type 0) (xs : List X) (i : ℕ) (d : X) → AllByRecursion P xs → P d → P (get_or xs i d)
all_at P [] i d each past = past
all_at P (x ∷ xs) zero d each past = each.0
all_at P (x ∷ xs) (suc i) d each past = all_at P xs i d each.1 past

-- what holds of each of two lists, one after another
pub all_append : {X : Type 0} (P : X → Type 0) (xs ys : List X) → AllByRecursion P xs → AllByRecursion P ys → AllByRecursion P (xs ++ ys)
all_append P [] ys each other = other
all_append P (x ∷ xs) ys each other = (each.0, all_append P xs ys each.1 other)

-- and of the first and of the second, where it holds of both
pub all_left : {X : Type 0} (P : X → Type 0) (xs ys : List X) → AllByRecursion P (xs ++ ys) → AllByRecursion P xs
all_left P [] ys each = tt
all_left P (x ∷ xs) ys each = (each.0, all_left P xs ys each.1)

pub all_right : {X : Type 0} (P : X → Type 0) (xs ys : List X) → AllByRecursion P (xs ++ ys) → AllByRecursion P ys
all_right P [] ys each = each
all_right P (x ∷ xs) ys each = all_right P xs ys each.1

-- what follows from what holds of each
pub all_then : {X : Type 0} (P Q : X → Type 0) (xs : List X) → ((x : X) → P x → Q x) → AllByRecursion P xs → AllByRecursion Q xs
all_then P Q [] then each = tt
all_then P Q (x ∷ xs) then each = (then x each.0, all_then P Q xs then each.1)

-- what holds of all that a function gives holds of each of a list of it
pub all_map : {A X : Type 0} (P : X → Type 0) (f : A → X) (xs : List A) → ((a : A) → P (f a)) → AllByRecursion P (map f xs)
all_map P f [] each = tt
all_map P f (x ∷ xs) each = (each x, all_map P f xs each)
