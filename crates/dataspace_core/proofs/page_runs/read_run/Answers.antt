-- Each step reads within one page of the run.
use Rattle.std.proofs.Common.{length, arith}
use Rattle.dataspace_core.specs.Layout.{run_bytes}
use Rattle.dataspace_core.proofs.RunLemmas.{page_in_read, is_taken-held}
use Rattle.dataspace_core.proofs.ReadLemmas.{length-filled, filled_more, filled_all}
use Rattle.dataspace_core.proofs.WalkLemmas.{step_in_page, step_within}
use Rattle.dataspace_core.proofs.page_runs.read_run.Goals as goal

pub read-requires-clause-taken : goal.read-requires-clause-taken
read-requires-clause-taken c =
    let here = step_in_page c.args.run.count c.args.offset (length c.loop-done.buffer) c.loop-done.done c.min-count.result (omega (arith, c.requires.range, c.loop-done.auto.buffer)) c.loop-done-test.true c.min-count.ensures in
    rw (page_in_read c.args.table.now.items c.args.run.start c.args.run.count _ c.index-page.result.now c.requires.run.within here.below c.index-page.ensures)
    (is_taken-held c.args.pool.now _ (c.requires.run.held _ here.below))

pub loop-done-preserved : goal.loop-done-preserved
loop-done-preserved c =
    let here = step_in_page c.args.run.count c.args.offset (length c.loop-done.buffer) c.loop-done.done c.min-count.result (omega (arith, c.requires.range, c.loop-done.auto.buffer)) c.loop-done-test.true c.min-count.ensures in
    let within = step_within _ c.loop-done.done (length c.loop-done.buffer) c.min-count.result c.loop-done-test.true c.min-count.ensures in
    let page = page_in_read c.args.table.now.items c.args.run.start c.args.run.count _ c.index-page.result.now c.requires.run.within here.below c.index-page.ensures in
    let size = length-filled c.loop-done.buffer c.read.new.buffer c.loop-done.done c.min-count.result c.read.auto.buffer in
    record {
      within = omega (arith, size, within);
      so_far = filled_more c.args.pool.now c.args.table.now.items c.args.run.start c.args.run.count c.args.offset c.loop-done.done c.min-count.result c.loop-done.buffer c.read.new.buffer c.requires.run here within c.read.auto.buffer (rw page at c.read.ensures.bytes) c.loop-done.invariant.so_far;
    }

pub returns : goal.returns
returns c =
    filled_all c.loop-done.buffer (run_bytes c.args.pool.now c.args.table.now.items c.args.run.start c.args.run.count) c.args.offset c.loop-done.done (length c.args.buffer.now) c.loop-done.auto.buffer c.loop-done.invariant.within c.loop-done-test.false c.loop-done.invariant.so_far
