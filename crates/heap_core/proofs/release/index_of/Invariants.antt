-- The number stands from the index on.
use Rattle.std.specs.Prelude.{◌≤◌, ◌-◌, drop, length}
use Rattle.heap_core.specs.Heap.{times_in}
use Rattle.heap_core.proofs.release.index_of.Given as goal

abbrev pub invariant-loop-index : goal.invariant-loop-index
invariant-loop-index l = 1 ≤ times_in (drop l.index l.numbers) l.number

abbrev pub decreases-loop-index : goal.decreases-loop-index
decreases-loop-index l = length l.numbers - l.index
