-- So much RAM and so many capabilities.
use Rattle.std.specs.Prelude.{ℕ, ◌+◌}
use Rattle.std.proofs.Common.{refl}
use Rattle.std.specs.Coded.{Coded, code_by, coded×, coded_ℕ}

-- bytes of RAM, and capabilities
pub record Amounts : Type 0 where
  pub ram : ℕ
  pub caps : ℕ

-- nothing of either
abbrev pub no_amounts : Amounts
no_amounts = record { ram = 0; caps = 0 }

abbrev pub more_of : Amounts → Amounts → Amounts
more_of a b = record { ram = a.ram + b.ram; caps = a.caps + b.caps }

-- amounts are stored as the pair of them
abbrev pub coded_amounts : Coded Amounts
coded_amounts =
    code_by
    (ℕ × ℕ)
    (coded× coded_ℕ coded_ℕ)
    (λ a. (a.ram, a.caps))
    (λ p. record { ram = p.0; caps = p.1 })
    (λ _. refl)
