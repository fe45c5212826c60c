-- What was passed is of the first piece, and ends outside quotes.
use Rattle.std.proofs.Common.{◌≡◌, ◌≤◌, ◌+◌, ◌-◌, false, length, drop}
use Rattle.session_proto.specs.Pieces.{first_len}
use Rattle.session_proto.proofs.text.piece_len.Given as goal

abbrev pub invariant-loop-next : goal.invariant-loop-next
invariant-loop-next l = (l.at ≤ length l.text) × (l.at + first_len false (drop l.at l.text) ≡ first_len false l.text)

abbrev pub decreases-loop-next : goal.decreases-loop-next
decreases-loop-next l = length l.text - l.at
