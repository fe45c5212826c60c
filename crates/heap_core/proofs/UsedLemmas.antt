-- The used block at an offset is the first block, or one of those after the first.
use Rattle.std.proofs.Common.{◌≡◌, ◌≢◌, ℕ, ◌-◌, ◌<◌, ◌≤◌, ◌==◌, true, false, List, ◌∷◌, ⊎_elim, ◌⊎◌, inl, inr, arith, Some}
use Rattle.std.proofs.lemmas.Bool.{cases_eq, cases_lt}
use Rattle.std.proofs.lemmas.Bool.Decides.{nat_tests}
use Rattle.std.proofs.lemmas.Option.{none-some, same_Some}
use Rattle.std.specs.Prelude.{nat_lt}
use Rattle.own_model.specs.BestFit.{used_at}
use Rattle.own_model.specs.Heap.{Block, Used, Hole}

-- a hole is passed
pub used_past : (off n m : ℕ) (rest : List Block) → used_at off (Hole m ∷ rest) ≡ Some n → (m ≤ off) × (used_at (off - m) rest ≡ Some n)
used_past off n m rest at = ⊎_elim
    (λ (inside : off < m). let u : nat_lt off m ≡ true = grind (arith, nat_tests) in absurd (none-some n (rw u at at)))
    (λ (past : m ≤ off). let u : nat_lt off m ≡ false = grind (arith, nat_tests) in (past, rw u at at))
    (cases_lt off m)

pub used_cases : (off n m : ℕ) (rest : List Block) → used_at off (Used m ∷ rest) ≡ Some n
    → ((off ≡ 0) × (m ≡ n)) ⊎ ((m ≤ off) × (used_at (off - m) rest ≡ Some n))
used_cases off n m rest at = ⊎_elim
    (λ (first : off ≡ 0). let t : (off == 0) ≡ true = grind (arith, nat_tests) in inl (first, same_Some m n (rw t at at)))
    (λ (later : off ≢ 0). let t : (off == 0) ≡ false = grind (arith, nat_tests) in inr (used_past off n m rest (rw t at at)))
    (cases_eq off 0)
