-- The words before are equal.
use Rattle.std.proofs.Common.{◌≡◌, ℕ, ◌+◌, ◌*◌, ◌<◌, ◌≤◌}
use Rattle.std.specs.Prelude.{slice_index}
use Rattle.dataspace_core.specs.Store.{space_at}
use Rattle.session_nodes.specs.Node.{word_from}
use Rattle.session_nodes.proofs.name_tree.CountedMemory.order.Given as goal

abbrev pub invariant-loop-i : goal.invariant-loop-i
invariant-loop-i g l = record {
  same : (j : ℕ) → j < l.i → slice_index l.fn.words j ≡ word_from (space_at l.fn.self.memory.now l.fn.ds.0).bytes (l.fn.offset + 8 * j);
  memory : l.self.memory.now ≡ l.fn.self.memory.now;
  reference : l.self.memory.ghost_name ≡ l.fn.self.memory.ghost_name;
  loads : l.self.loads ≤ l.fn.self.loads + l.i;
}
