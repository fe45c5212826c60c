-- What credits of an account come to.
use Rattle.std.proofs.Common.{◌≡◌, ℕ, ◌+◌, ◌-◌, arith}
use Rattle.own_model.specs.Account.{Account, credited}

-- a credit of nothing
pub credit_nothing : (a : Account) → credited a 0 0 ≡ a
credit_nothing a =
    let ram : a.ram_used - 0 ≡ a.ram_used = omega arith in
    let caps : a.caps_used - 0 ≡ a.caps_used = omega arith in
    λ i. record a { ram_used = ram i; caps_used = caps i }

-- two credits are one
pub credit_twice : (a : Account) (m n k l : ℕ) → credited (credited a m k) n l ≡ credited a (n + m) (l + k)
credit_twice a m n k l =
    let ram : a.ram_used - m - n ≡ a.ram_used - (n + m) = omega arith in
    let caps : a.caps_used - k - l ≡ a.caps_used - (l + k) = omega arith in
    λ i. record a { ram_used = ram i; caps_used = caps i }
