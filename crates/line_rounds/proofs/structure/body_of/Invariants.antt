-- What is left of the lines is still to be passed.
use Rattle.std.proofs.Common.{◌≡◌, ◌+◌, ◌≤◌, drop}
use Rattle.line_rounds.specs.Structure.{body_length}
use Rattle.line_rounds.specs.Views.{texts}
use Rattle.line_rounds.proofs.structure.body_of.Given as goal

abbrev pub invariant-loop-i : goal.invariant-loop-i
invariant-loop-i l = (l.i + body_length l.within (texts (drop l.i l.lines)) ≡ body_length 0 (texts l.lines)) × (l.within ≤ l.i)
