-- The first comma outside quotes is in what is left.
use Rattle.std.proofs.Common.{◌≡◌, ◌+◌, drop, false}
use Rattle.session_proto.specs.Pieces.{first_len}
use Rattle.run_scenario.proofs.unknown_names.part_length.Given as goal

abbrev pub invariant-loop-i : goal.invariant-loop-i
invariant-loop-i l = l.i + first_len l.quoted (drop l.i l.text) ≡ first_len false l.text
