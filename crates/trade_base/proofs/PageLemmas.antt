-- Rounding up by division gives the least multiple of a page.
use Rattle.std.proofs.Common.{◌≡◌, ℕ, ◌+◌, ◌*◌, ◌/◌, ◌≤◌, Option, Some, None, IfSome, refl, subst, arith}
use Rattle.std.specs.Option.{SomeIff}
use Rattle.std.specs.Int.{next_multiple_of}
use Rattle.trade_base.specs.Page.{page_of, IsLeastPageSize}

-- a number of pages that covers n is at least the quotient
quotient_least : (n pages : ℕ) → n ≤ pages * 4096 → (n + 4095) / 4096 * 4096 ≤ pages * 4096
quotient_least n pages covers = omega arith

-- the quotient covers n
quotient_covers : (n : ℕ) → n ≤ (n + 4095) / 4096 * 4096
quotient_covers n = omega arith

-- page_of is the least
pub IsLeastPageSize-page_of : (n : ℕ) → IsLeastPageSize n (page_of n)
IsLeastPageSize-page_of n = record {
  whole = ((n + 4095) / 4096, refl);
  covers = quotient_covers n;
  least = quotient_least n;
}

-- what rounds up to a multiple of a page, if it fits, is the least
pub least_rounded : (n : ℕ) (r : Option ℕ) (P : Type 0) → SomeIff r P (next_multiple_of n 4096) → IfSome r (IsLeastPageSize n)
least_rounded n None P h = tt
least_rounded n (Some size) P h =
    let e : page_of n ≡ size = omega (arith, h.1) in subst (IsLeastPageSize n) e (IsLeastPageSize-page_of n)
