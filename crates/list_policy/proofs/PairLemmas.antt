-- Sums over the numbers below a bound.
use Rattle.std.proofs.Common.{◌≡◌, ℕ, ◌+◌, suc, sym, ap, arith}
use Rattle.list_policy.specs.Cuts.{plus}
use Rattle.list_policy.specs.Pairs.{total_below}

next : (n : ℕ) → suc n ≡ n + 1
next n = omega arith

-- the sum has one number more
pub total_more : (count : ℕ → ℕ) (n : ℕ) → total_below count (n + 1) ≡ plus (total_below count n) (count n)
total_more count n = ap (λ m. total_below count m) (sym (next n))
