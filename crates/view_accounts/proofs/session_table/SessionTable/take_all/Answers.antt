-- The row is out, and an empty one is in its place.
use Rattle.std.proofs.Common.{◌<◌, arith, ap, length, sym, ◌∙◌}
use Rattle.std.specs.Prelude.{vec_items}
use Rattle.view_accounts.proofs.SessionTableLemmas.{row_read, value-none}
use Rattle.view_accounts.proofs.session_table.SessionTable.take_all.Goals as goal

pub returns-then-component-len : goal.returns-then-component-len
returns-then-component-len g c =
    let rows = c.args.self.now.rows in
    let within : c.args.component < length rows.items = omega (arith, c.if-component-len.true, c.len.ensures, rows.ok.0) in
    record {
      taken = ap vec_items c.replace.ensures.value ∙ sym (row_read rows.items c.args.component c.index_mut.result.now within c.index_mut.ensures.value);
      left = λ k q. value-none rows.items c.args.component c.replace.new.dest within (ap vec_items c.replace.ensures.after ∙ c.new-none.ensures.items) k q;
    }
