-- Whether rounds stand among the lines is told by those that are left.
use Rattle.std.proofs.Common.{◌≡◌, drop}
use Rattle.line_rounds.specs.Unfolding.{has_rounds}
use Rattle.line_rounds.specs.Views.{texts}
use Rattle.line_rounds.proofs.unfolded_text.has_rounds.Given as goal

abbrev pub invariant-loop-line : goal.invariant-loop-line
invariant-loop-line l = has_rounds (texts (drop l.line-index l.lines)) ≡ has_rounds (texts l.lines)
