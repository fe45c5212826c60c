-- How many bytes digits stand for.
use Rattle.std.proofs.Common.{◌≡◌, ℕ, ◌/◌, List, length, arith}
use Rattle.std.specs.Prelude.{IsSome}
use Rattle.own_model.proofs.LogLemmas.{bytes_of_digits}
use Rattle.own_model.specs.Text.{bytes_of_hex, hex_bytes}
use Rattle.pd_core.proofs.ScriptOwnLemmas.{value_of}

-- half as many as their digits
pub hex_counted : (hex : List ℕ) → IsSome (bytes_of_hex hex) → length hex / 2 ≡ length (hex_bytes hex)
hex_counted hex some = let twice = bytes_of_digits hex (hex_bytes hex) (value_of (bytes_of_hex hex) some) in omega (arith, twice)
