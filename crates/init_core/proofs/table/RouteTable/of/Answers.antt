use Rattle.std.proofs.Common.{◌∙◌}
use Rattle.init_core.proofs.RowLemmas.{row_more}
use Rattle.init_core.proofs.table.RouteTable.of.Goals as goal

pub loop-client-preserved : goal.loop-client-preserved
loop-client-preserved c =
    c.in_ok-push.ensures.items ∙ row_more c.args.list.now c.loop-client.rows.items c.loop-client.client c.in_ok-of.field-0 c.loop-client.invariant c.in_ok-of.ensures
