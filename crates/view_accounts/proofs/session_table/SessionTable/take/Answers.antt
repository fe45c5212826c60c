-- One value of one row is gone.
use Rattle.std.proofs.Common.{◌<◌, length, arith}
use Rattle.std.specs.Prelude.{None}
use Rattle.view_accounts.proofs.SessionTableLemmas.{row_read, value-set}
use Rattle.view_accounts.proofs.session_table.SessionTable.take.Goals as goal

pub returns-then-component-len-clause-left : goal.returns-then-component-len-clause-left
returns-then-component-len-clause-left g c = λ k q.
    let rows = c.args.self.now.rows in
    let within : c.args.component < length rows.items = omega (arith, c.if-component-len.true, c.len.ensures, rows.ok.0) in
    value-set rows.items c.args.component c.take_cell.new.row c.args.selector None c.index_mut.result.now.items within
    (row_read rows.items c.args.component c.index_mut.result.now within c.index_mut.ensures.value) c.take_cell.ensures.left k q
