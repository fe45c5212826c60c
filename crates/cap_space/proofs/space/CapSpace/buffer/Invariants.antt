-- No selector so far names the buffer.
use Rattle.std.specs.Prelude.{ℕ, ◌-◌, ◌≤◌, IsFalse}
use Rattle.std.specs.FinMap.{get}
use Rattle.cap_space.specs.Space.{is_buffer}
use Rattle.cap_space.proofs.space.CapSpace.buffer.Given as goal

abbrev pub invariant-loop-selector : goal.invariant-loop-selector
invariant-loop-selector l = (other : ℕ) → other ≤ l.selector → IsFalse (is_buffer l.space.0 (get l.self.caps other))

abbrev pub decreases-loop-selector : goal.decreases-loop-selector
decreases-loop-selector l = l.places - l.selector
