use Rattle.std.proofs.Common.{◌≡◌, List, ◌+◌, ◌-◌, ◌<◌}
use Rattle.own_model.specs.Heap.{Block, bytes_in}
use Rattle.avl_alloc.specs.Words.{place_at}
use Rattle.avl_alloc.specs.Layout.{Laid}
use Rattle.avl_alloc.specs.Walk.{IsWalking}
use Rattle.avl_alloc.proofs.memory.WordMemory.walk.Given as goal

-- the walk has reached this step
abbrev pub invariant-steps : goal.invariant-steps
invariant-steps g l = record {
  words : g.Self.WordMemory.word l.self ≡ g.Self.WordMemory.word l.fn.self;
  rest : g.Self.WordMemory.rest l.self ≡ g.Self.WordMemory.rest l.fn.self;
  walking : (blocks : List Block) → Laid (g.Self.WordMemory.word l.fn.self) (place_at l.chunk 0) blocks → l.target < bytes_in blocks →
      IsWalking (g.Self.WordMemory.word l.fn.self) (place_at l.chunk 0) l.target blocks l.step (g.Self.WordMemory.loads l.self) (g.Self.WordMemory.loads l.fn.self);
}

abbrev pub decreases-steps : goal.decreases-steps
decreases-steps g l = l.target + 1 - l.step.next
