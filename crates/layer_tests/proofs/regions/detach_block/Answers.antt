-- One region less.
use Rattle.std.proofs.Common.{arith}
use Rattle.own_model.proofs.NatMapLemmas.{value_at}
use Rattle.own_model.proofs.Totals.{len-remove_at, total-remove}
use Rattle.layer_tests.proofs.regions.detach_block.Goals as goal

pub returns-clause-count : goal.returns-clause-count
returns-clause-count c =
    let at = value_at c.args.map.now.heap c.args.address c.requires in
    rw c.detach_heap.ensures (omega (arith, len-remove_at c.args.map.now.heap c.args.address at.0 at.1))

pub returns-clause-used : goal.returns-clause-used
returns-clause-used c =
    let at = value_at c.args.map.now.heap c.args.address c.requires in
    rw c.detach_heap.ensures (omega (arith, total-remove (λ r. r.pages) c.args.map.now.heap c.args.address at.0 at.1))
