-- Lists that are read one by one.
use Rattle.std.proofs.Common.{arith, ◌≡◌, ℕ, zero, suc, ◌+◌, ◌<◌, ◌≤◌, List, [], ◌∷◌, length, drop, get_or, refl, sym, ap, add-one}

-- the next element, and the end
next_at : {X : Type 0} (xs : List X) (i : ℕ) (x : X) → i < length xs → x ≡ get_or xs i x → drop i xs ≡ x ∷ drop (suc i) xs
next_at [] i x there is = absurd (omega (arith, there))
next_at (y ∷ ys) zero x there is = ap (λ z. z ∷ ys) (sym is)
next_at (y ∷ ys) (suc i) x there is = next_at ys i x (omega (arith, there)) is

pub next_item : {X : Type 0} (xs : List X) (i : ℕ) (x : X) → i < length xs → x ≡ get_or xs i x → drop i xs ≡ x ∷ drop (i + 1) xs
next_item xs i x there is = rw add-one (next_at xs i x there is)

pub no_item : {X : Type 0} (xs : List X) (i : ℕ) → length xs ≤ i → drop i xs ≡ []
no_item [] zero past = refl
no_item [] (suc i) past = refl
no_item (x ∷ xs) zero past = absurd (omega (arith, past))
no_item (x ∷ xs) (suc i) past = no_item xs i (omega (arith, past))
