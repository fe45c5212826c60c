-- What lies behind the run comes to its start.
use Rattle.std.proofs.Common.{◌≡◌, ◌+◌, ◌-◌, length, arith}
use Rattle.dataspace_core.proofs.RunLemmas.{IsClosed-one, IsClosed-cut}
use Rattle.dataspace_core.proofs.page_runs.close_gap.Goals as goal

pub returns-then-gap-eq1-clause-closed : goal.returns-then-gap-eq1-clause-closed
returns-then-gap-eq1-clause-closed c =
    let one = c.if-gap-eq1.true in
    IsClosed-one c.args.table.now.items c.remove-page.new.self.items c.args.gap.start c.args.gap.count one
    (omega (arith, c.args.table.now.ok)) (omega (arith, c.remove-page.ensures.len, c.args.table.now.ok, c.remove-page.new.self.ok)) c.remove-page.ensures.by_index.0 c.remove-page.ensures.by_index.1

pub returns-clause-closed : goal.returns-clause-closed
returns-clause-closed c =
    let left : c.len.result - c.args.gap.count ≡ length c.args.table.now.items - c.args.gap.count = omega (arith, c.copy_within.ensures.len, c.args.table.now.ok) in
    let shorter : length c.truncate.new.self.items + c.args.gap.count ≡ length c.args.table.now.items = omega (arith, c.copy_within.ensures.len, c.args.table.now.ok, c.truncate.new.self.ok, c.truncate.ensures.len) in
    IsClosed-cut c.args.table.now.items c.copy_within.new.self.items c.truncate.new.self.items c.args.gap.start c.args.gap.count
    (omega (arith, c.args.table.now.ok)) _ (omega (arith, c.args.table.now.ok)) c.copy_within.ensures.by_index.0 c.copy_within.ensures.by_index.1 _ left c.truncate.ensures.by_index shorter
