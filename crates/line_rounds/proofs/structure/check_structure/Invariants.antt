-- The lines that are left are still to be tested.
use Rattle.std.proofs.Common.{◌≡◌, ◌+◌, [], drop}
use Rattle.line_rounds.specs.Structure.{opens_from}
use Rattle.line_rounds.specs.Views.{texts}
use Rattle.line_rounds.proofs.structure.check_structure.Given as goal

abbrev pub invariant-loop-i : goal.invariant-loop-i
invariant-loop-i l = opens_from (l.i + 1) l.opens.items (texts (drop l.i l.lines)) ≡ opens_from 1 [] (texts l.lines)
