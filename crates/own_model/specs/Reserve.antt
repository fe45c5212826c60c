-- A component's reserve: limits that are kept for it, and of which nothing is used.
use Rattle.std.specs.Prelude.{ℕ, ◌+◌, ◌-◌}
use Rattle.own_model.specs.Account.{Account, opened}
use Rattle.own_model.specs.Amounts.{Amounts, no_amounts}

-- the reserve of who has none: a server, and who has exited
abbrev pub no_reserve : Amounts
no_reserve = no_amounts

-- a reserve as the account that it is
abbrev pub reserve_account : Amounts → Account
reserve_account reserve = opened reserve.ram reserve.caps

-- a reserve that has got so much more
abbrev pub filled : Amounts → ℕ → ℕ → Amounts
filled reserve ram caps = record { ram = reserve.ram + ram; caps = reserve.caps + caps }

-- and one that has given so much
abbrev pub drawn : Amounts → ℕ → ℕ → Amounts
drawn reserve ram caps = record { ram = reserve.ram - ram; caps = reserve.caps - caps }
