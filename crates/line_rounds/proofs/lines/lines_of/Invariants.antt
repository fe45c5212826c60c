-- What is left of the text are the lines that are left.
use Rattle.std.proofs.Common.{◌≡◌, ◌++◌, length}
use Rattle.own_model.specs.Text.{lines_of}
use Rattle.line_rounds.specs.Views.{texts}
use Rattle.line_rounds.proofs.lines.lines_of.Given as goal

abbrev pub invariant-loop-rest : goal.invariant-loop-rest
invariant-loop-rest l = texts l.lines.items ++ lines_of l.rest ≡ lines_of l.text

abbrev pub decreases-loop-rest : goal.decreases-loop-rest
decreases-loop-rest l = length l.rest
