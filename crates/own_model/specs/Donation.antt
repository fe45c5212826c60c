-- Limits that an account is given.
use Rattle.std.specs.Prelude.{ℕ, ◌+◌}
use Rattle.own_model.specs.Account.{Account}

-- the account with so much more as limits
abbrev pub raised : Account → ℕ → ℕ → Account
raised a ram caps = record a { ram_limit = a.ram_limit + ram; caps_limit = a.caps_limit + caps }
