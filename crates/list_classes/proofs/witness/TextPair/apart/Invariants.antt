use Rattle.std.proofs.Common.{◌+◌, length}
use Rattle.list_classes.specs.Witnesses.{AreLonger}
use Rattle.list_classes.proofs.witness.TextPair.apart.Given as goal

abbrev pub invariant-loop-between : goal.invariant-loop-between
invariant-loop-between l = AreLonger l.self l.front l.end (length l.front + (l.between + length l.end))
