-- What counts as a failure of a device.
use Rattle.std.specs.Prelude.{ℕ, ◌==◌, ◌&&◌, Bool, true, List, length, nat_lt, Result, Ok, Err}

-- a write failed, or took nothing of one byte or more
abbrev pub is_write_failure : {E : Type 0} → Result ℕ E → List ℕ → Bool
is_write_failure (Ok n) buffer = n == 0 && nat_lt 0 (length buffer)
is_write_failure (Err e) buffer = true
