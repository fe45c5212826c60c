use Rattle.std.proofs.Common.{ℕ, List, ◌-◌, ◌+◌, ◌≤◌}
use Rattle.own_model.specs.Heap.{Block}
use Rattle.avl_alloc.specs.Words.{Words}
use Rattle.avl_alloc.specs.Walk.{IsWalking}
use Rattle.heap_core.specs.Walk.{IsPageOf, step_at}
use Rattle.heap_core.proofs.walk.walk_page.Given as goal

-- a walk that had reached the first step has reached this one
abbrev pub invariant-headers : goal.invariant-headers
invariant-headers g l = record {
  on : l.fn.step.next ≤ l.start + l.offset;
  order : l.before ≤ l.offset;
  walking : (w : Words) (start k : ℕ) (blocks : List Block) → IsPageOf l.page w start l.fn.step.next → IsWalking w start l.target blocks l.fn.step l.fn.loads k →
      IsWalking w start l.target blocks (step_at l.start l.outside l.before l.offset l.next) l.loads k;
}

abbrev pub decreases-headers : goal.decreases-headers
decreases-headers g l = l.end - l.next
