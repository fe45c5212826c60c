-- An account of RAM (bytes) and capabilities.
use Rattle.std.specs.Prelude.{ℕ, ◌+◌, ◌-◌, ◌≤◌, nat_lt, if◌then◌else◌, Option, Some, None}
use Rattle.std.proofs.Common.{refl}
use Rattle.std.specs.Coded.{Coded, code_by, coded×, coded_ℕ}
use Rattle.trade_base.specs.declared.refusal.Refusal.{Refusal}
use Rattle.trade_base.specs.declared.refusal.Refusal.TheVariants.{InvalidSize, OutOfRam, OutOfCaps}
use Rattle.trade_base.specs.Page.{page_of, is_valid_size}

-- a limit and a use, of bytes and of capabilities
pub record Account : Type 0 where
  pub ram_limit : ℕ
  pub ram_used : ℕ
  pub caps_limit : ℕ
  pub caps_used : ℕ

-- an account is stored as the tuple of its fields
abbrev pub coded_account : Coded Account
coded_account =
    code_by
    (ℕ × (ℕ × (ℕ × ℕ)))
    (coded× coded_ℕ (coded× coded_ℕ (coded× coded_ℕ coded_ℕ)))
    (λ a. (a.ram_limit, (a.ram_used, (a.caps_limit, a.caps_used))))
    (λ p. record { ram_limit = p.0; ram_used = p.1.0; caps_limit = p.1.1.0; caps_used = p.1.1.1 })
    (λ _. refl)

-- the account covers so many bytes and capabilities more
pub record Fits (a : Account) (ram caps : ℕ) : Type 0 where
  pub ram_fits : a.ram_used + ram ≤ a.ram_limit
  pub caps_fit : a.caps_used + caps ≤ a.caps_limit

-- what the account lacks for so many more: RAM is looked at first
abbrev pub shortage : Account → ℕ → ℕ → Option Refusal
shortage a ram caps =
    if nat_lt a.ram_limit (a.ram_used + ram) then Some OutOfRam
    else (if nat_lt a.caps_limit (a.caps_used + caps) then Some OutOfCaps else None)

-- why an allocation of n bytes, in whole pages and under one capability, is refused
abbrev pub alloc_refusal : ℕ → Account → Option Refusal
alloc_refusal n account =
    if is_valid_size n then shortage account (page_of n) 1 else Some InvalidSize

-- the account with so much more in use
abbrev pub charged : Account → ℕ → ℕ → Account
charged a ram caps = record a { ram_used = a.ram_used + ram; caps_used = a.caps_used + caps }

-- the account with so much less in use
abbrev pub credited : Account → ℕ → ℕ → Account
credited a ram caps = record a { ram_used = a.ram_used - ram; caps_used = a.caps_used - caps }

-- an account of which nothing is used
abbrev pub opened : ℕ → ℕ → Account
opened ram caps = record { ram_limit = ram; ram_used = 0; caps_limit = caps; caps_used = 0 }

-- the account after so much of its limits went to another
abbrev pub parted_with : Account → ℕ → ℕ → Account
parted_with a ram caps = record a { ram_limit = a.ram_limit - ram; caps_limit = a.caps_limit - caps }

-- the account uses no more than its limits
pub record WithinLimits (a : Account) : Type 0 where
  pub ram : a.ram_used ≤ a.ram_limit
  pub caps : a.caps_used ≤ a.caps_limit
