-- Each step writes within one page of the run.
use Rattle.std.proofs.Common.{◌≡◌, length, take, subst, arith}
use Rattle.std.proofs.lemmas.List.{take_all}
use Rattle.dataspace_core.specs.Layout.{IsWritten}
use Rattle.dataspace_core.proofs.RunLemmas.{page_in_read, is_taken-held}
use Rattle.dataspace_core.proofs.WriteLemmas.{IsWritten-nothing, IsWritten-step}
use Rattle.dataspace_core.proofs.WalkLemmas.{step_in_page, step_within}
use Rattle.dataspace_core.proofs.page_runs.write_run.Goals as goal

pub loop-done-init : goal.loop-done-init
loop-done-init c = record {
  within = omega arith;
  so_far = IsWritten-nothing c.args.pool.now c.args.table.now.items c.args.run.start c.args.run.count c.args.offset c.requires.run;
}

pub write-requires-clause-taken : goal.write-requires-clause-taken
write-requires-clause-taken c =
    let here = step_in_page c.args.run.count c.args.offset (length c.args.part.now) c.loop-done.done c.min-count.result c.requires.range c.loop-done-test.true c.min-count.ensures in
    rw (page_in_read c.args.table.now.items c.args.run.start c.args.run.count _ c.index-page.result.now c.requires.run.within here.below c.index-page.ensures)
    (is_taken-held c.loop-done.pool _ (c.loop-done.invariant.so_far.held _ here.below))

pub loop-done-preserved : goal.loop-done-preserved
loop-done-preserved c =
    let here = step_in_page c.args.run.count c.args.offset (length c.args.part.now) c.loop-done.done c.min-count.result c.requires.range c.loop-done-test.true c.min-count.ensures in
    let within = step_within _ c.loop-done.done (length c.args.part.now) c.min-count.result c.loop-done-test.true c.min-count.ensures in
    let page = page_in_read c.args.table.now.items c.args.run.start c.args.run.count _ c.index-page.result.now c.requires.run.within here.below c.index-page.ensures in
    let written = rw page at c.write.ensures.written in
    let count = rw written at c.write.ensures.count in
    record {
      within = within;
      so_far = rw written (IsWritten-step c.args.pool.now c.loop-done.pool c.args.table.now.items c.args.run.start c.args.run.count c.args.offset c.loop-done.done c.min-count.result c.args.part.now c.requires.run here within c.loop-done.invariant.so_far count);
    }

pub returns : goal.returns
returns c =
    let all : take c.loop-done.done c.args.part.now ≡ c.args.part.now = take_all c.loop-done.done c.args.part.now c.loop-done-test.false in
    subst (IsWritten c.args.pool.now c.loop-done.pool c.args.table.now.items c.args.run.start c.args.run.count c.args.offset) all c.loop-done.invariant.so_far
