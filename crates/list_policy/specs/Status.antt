-- The exit status of a check against a policy.
use Rattle.std.specs.Prelude.{ℕ, nat_lt, if◌then◌else◌}

-- by the number of faulty lines, and else by the number of breaches
abbrev pub exit_status : ℕ → ℕ → ℕ
exit_status faults breaches = if nat_lt 0 faults then 2 else if nat_lt 0 breaches then 3 else 0
