-- One region more, of its pages.
use Rattle.std.proofs.Common.{refl}
use Rattle.own_model.proofs.NatMapLemmas.{IsSome-insert, IsSome-insert_same}
use Rattle.own_model.proofs.Totals.{len-insert_new, total-insert_new}
use Rattle.layer_tests.proofs.regions.attach_block.Goals as goal

pub returns-clause-count : goal.returns-clause-count
returns-clause-count c = rw c.attach_block.ensures.attached (len-insert_new c.args.map.now.heap c.attach_block.result _ c.attach_block.ensures.free)

pub returns-clause-used : goal.returns-clause-used
returns-clause-used c = rw c.attach_block.ensures.attached (total-insert_new (λ r. r.pages) c.args.map.now.heap c.attach_block.result _ c.attach_block.ensures.free)

pub returns-clause-there : goal.returns-clause-there
returns-clause-there c = rw c.attach_block.ensures.attached (IsSome-insert_same c.args.map.now.heap c.attach_block.result _ c.attach_block.result refl)

pub returns-clause-kept : goal.returns-clause-kept
returns-clause-kept c = rw c.attach_block.ensures.attached (λ start there. IsSome-insert c.args.map.now.heap c.attach_block.result _ start there)
