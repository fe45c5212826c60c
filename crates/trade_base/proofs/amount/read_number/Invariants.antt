-- The number so far goes on to the same result, and is within 64 bits.
use Rattle.std.proofs.Common.{◌≡◌, ◌^◌, ◌<◌, drop}
use Rattle.trade_base.proofs.NumberLemmas.{number_from}
use Rattle.trade_base.proofs.amount.read_number.Given as goal

abbrev pub invariant-loop-digit : goal.invariant-loop-digit
invariant-loop-digit l = (number_from l.number (drop l.digit-index l.digits) ≡ number_from 0 l.digits) × (l.number < 2 ^ 64)
