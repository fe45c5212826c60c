use Rattle.std.proofs.Common.{ℕ, List, ◌-◌, ◌+◌}
use Rattle.own_model.specs.Heap.{Block}
use Rattle.avl_alloc.specs.Words.{Words}
use Rattle.dataspace_core.specs.Store.{space_at}
use Rattle.avl_alloc.specs.Walk.{IsWalking}
use Rattle.heap_core.specs.Walk.{HasWords, HasHeaders}
use Rattle.heap_core.proofs.walk.walk.Given as goal

-- the walk has reached this step
abbrev pub invariant-pages : goal.invariant-pages
invariant-pages g l = (w : Words) (start : ℕ) (blocks : List Block) → HasWords (space_at l.memory l.ds.0).bytes w start → HasHeaders w start l.target blocks → IsWalking w start l.target blocks l.step l.loads l.fn.loads

abbrev pub decreases-pages : goal.decreases-pages
decreases-pages g l = l.target + 1 - l.step.next
