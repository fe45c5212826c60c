-- Lists in which one element is changed.
use Rattle.std.proofs.Common.{arith, ◌≡◌, ℕ, zero, suc, ◌<◌, ◌≤◌, List, [], ◌∷◌, length, get_or, set, refl, ap}
use Rattle.std.specs.Prelude.{map}
use Rattle.list_parser.specs.Budgets.{changed_at}

-- what is seen of the element that is written in a place is a change of what was seen there
pub set_changed : {X Y : Type 0} (f : X → Y) (change : Y → Y) (xs : List X) (place : ℕ) (d v : X) → place < length xs → f v ≡ change (f (get_or xs place d)) →
    map f (set xs place v) ≡ changed_at change (map f xs) place
set_changed f change [] place d v there is = absurd (omega (arith, there))
set_changed f change (x ∷ xs) zero d v there is = ap (λ y. y ∷ map f xs) is
set_changed f change (x ∷ xs) (suc place) d v there is = ap (λ ys. f x ∷ ys) (set_changed f change xs place d v (omega (arith, there)) is)

-- past the end nothing is changed
pub changed_past : {X : Type 0} (change : X → X) (xs : List X) (place : ℕ) → length xs ≤ place → changed_at change xs place ≡ xs
changed_past change [] place past = refl
changed_past change (x ∷ xs) zero past = absurd (omega (arith, past))
changed_past change (x ∷ xs) (suc place) past = ap (λ ys. x ∷ ys) (changed_past change xs place (omega (arith, past)))
