use Rattle.std.proofs.Common.{◌+◌, length}
use Rattle.list_classes.specs.Witnesses.{AreLonger}
use Rattle.list_classes.proofs.witness.TextPair.overlapping.Given as goal

abbrev pub invariant-loop-rest : goal.invariant-loop-rest
invariant-loop-rest l = AreLonger l.self l.front l.end (length l.front + l.rest)
