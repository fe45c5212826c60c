-- Each answer is noted in the rows of the machine.
use Rattle.std.proofs.Common.{arith, map}
use Rattle.view_coverage.specs.Covered.{answer_of}
use Rattle.view_coverage.proofs.CoverLemmas.{covered_whole}
use Rattle.view_coverage.proofs.scenario_coverage.cover.Goals as goal

pub returns : goal.returns
returns c =
    covered_whole c.args.list.now (map answer_of c.args.exchanges.now) c.in_ok-rows.rows.len c.in_ok-rows.rows.items
    c.as_mut_slice.result.now c.note_all.new.rows (cc (c.as_mut_slice.ensures.value))
    (omega (arith, c.as_mut_slice.ensures.len)) c.in_ok-rows.ensures c.in_ok-note_all.ensures
