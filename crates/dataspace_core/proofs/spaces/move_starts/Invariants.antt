-- The starts so far have moved, and the others are as they were.
use Rattle.std.proofs.Common.{◌≡◌, ◌≤◌, ℕ, get_or}
use Rattle.dataspace_core.specs.Spaces.{HaveMoved}
use Rattle.dataspace_core.proofs.spaces.move_starts.Given as goal

abbrev pub invariant-loop-key : goal.invariant-loop-key
invariant-loop-key l = record {
  moved : HaveMoved l.from l.by l.key l.initial.starts l.starts;
  rest : (key : ℕ) → l.key ≤ key → get_or l.starts key 0 ≡ get_or l.initial.starts key 0;
}
