-- One value of one row is another.
use Rattle.std.proofs.Common.{◌==◌, ◌&&◌, ◌∙◌, cond, ap}
use Rattle.std.specs.Prelude.{Some}
use Rattle.view_accounts.specs.SessionTable.{row_value}
use Rattle.view_accounts.proofs.SessionTableLemmas.{row_read, value-set}
use Rattle.std.proofs.lemmas.Result.{on_ok_weaker}
use Rattle.view_accounts.proofs.session_table.SessionTable.set.Goals as goal

pub returns : goal.returns
returns g c = on_ok_weaker c.set_cell.result
    (λ is k q.
    let rows = c.add_rows.new.rows.items in
    value-set rows c.args.component c.set_cell.new.row c.args.selector (Some c.args.value) c.index_mut.result.now.items c.in_ok-add_rows.ensures.there
    (row_read rows c.args.component c.index_mut.result.now c.in_ok-add_rows.ensures.there c.index_mut.ensures.value) is k q
    ∙ ap (λ row. cond (k == c.args.component && q == c.args.selector) (Some c.args.value) (row_value row q)) (c.in_ok-add_rows.ensures.same k))
    c.set_cell.ensures
