-- Both heaps stay sound.
use Rattle.layer_tests.specs.Heaps.{AreBeside}
use Rattle.layer_tests.proofs.heaps.TwoHeaps.run.Given as goal

abbrev pub invariant-loop-place : goal.invariant-loop-place
invariant-loop-place g l = AreBeside l.self.heap l.self.other l.self.memory l.self.map
