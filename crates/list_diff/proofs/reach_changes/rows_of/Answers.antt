-- One pair more.
use Rattle.list_diff.proofs.ReachLemmas.{compared_of, next_rows}
use Rattle.list_diff.proofs.reach_changes.rows_of.Goals as goal

pub row_of-requires : goal.row_of-requires
row_of-requires c =
    compared_of c.args.before.list.now c.args.after.list.now c.index-pairs-place.result c.in_ok-one.one c.in_ok-one.ensures.compared
    c.in_ok-one.ensures.client c.in_ok-one.ensures.service

pub loop-place-preserved : goal.loop-place-preserved
loop-place-preserved c =
    record {
      rows = next_rows c.args.before c.args.after c.args.pairs.now c.loop-place.place c.index-pairs-place.result c.in_ok-row.row
          c.loop-place.found.items c.add_row.new.found.items c.loop-place.invariant.rows c.loop-place-test.true c.index-pairs-place.is
          c.in_ok-add_row.ensures c.in_ok-row.ensures;
      last = c.in_ok-one.ensures.compared;
    }
