-- Rules that are resolved service by service.
use Rattle.std.proofs.Common.{◌≡◌, ℕ, zero, suc, ◌+◌, List, [], ◌∷◌, ◌++◌, map, drop, Some, sym, ap, ◌∙◌, append_assoc, arith}
use Rattle.std.specs.List.{slice_get}
use Rattle.std.proofs.lemmas.Option.{none-some, same_Some}

-- what is left from a place on has the element there first
drop_there : {X : Type 0} (xs : List X) (place : ℕ) (x : X) → slice_get xs place ≡ Some x → drop place xs ≡ x ∷ drop (place + 1) xs
drop_there [] place x is = absurd (none-some x is)
drop_there (y ∷ ys) zero x is = ap (λ z. z ∷ ys) (same_Some y x is)
drop_there (y ∷ ys) (suc place) x is =
    let same : suc (place + 1) ≡ suc place + 1 = omega arith in
    drop_there ys place x is ∙ ap (λ n. x ∷ drop n (y ∷ ys)) same

-- one more is resolved, and the rest is still to come
pub one_resolved : {X Y : Type 0} (f : X → Y) (before after all : List Y) (xs : List X) (place : ℕ) (x : X) (y : Y) → (before ++ map f (drop place xs)) ≡ all →
    slice_get xs place ≡ Some x → after ≡ before ++ y ∷ [] → y ≡ f x → (after ++ map f (drop (place + 1) xs)) ≡ all
one_resolved f before after all xs place x y so_far there added is =
    ap (λ done. done ++ map f (drop (place + 1) xs)) (added ∙ ap (λ z. before ++ z ∷ []) is)
    ∙ append_assoc before (f x ∷ []) (map f (drop (place + 1) xs))
    ∙ ap (λ left. before ++ map f left) (sym (drop_there xs place x there)) ∙ so_far
