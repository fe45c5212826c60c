-- Each page is still taken when its turn comes.
use Rattle.std.proofs.Common.{◌≡◌, arith, subst}
use Rattle.dataspace_core.specs.Layout.{IsGiven}
use Rattle.dataspace_core.proofs.RunLemmas.{page_in_read, IsGiven-none, IsGiven-more, is_taken-next}
use Rattle.dataspace_core.proofs.page_runs.give_run.Goals as goal

pub loop-index-init : goal.loop-index-init
loop-index-init c = IsGiven-none c.args.pool.now c.args.table.now.items c.args.run.start

pub give-requires : goal.give-requires
give-requires c =
    rw (page_in_read c.args.table.now.items c.args.run.start c.args.run.count c.loop-index.index c.index.result.now c.requires.within c.loop-index-test.true c.index.ensures)
    (is_taken-next c.args.pool.now c.loop-index.pool c.args.table.now.items c.args.run.start c.args.run.count c.loop-index.index c.requires c.loop-index.invariant c.loop-index-test.true)

pub loop-index-preserved : goal.loop-index-preserved
loop-index-preserved c =
    let page = page_in_read c.args.table.now.items c.args.run.start c.args.run.count c.loop-index.index c.index.result.now c.requires.within c.loop-index-test.true c.index.ensures in
    let freed = rw page at c.give.ensures.freed in
    let count = rw freed at c.give.ensures.count in
    rw freed (IsGiven-more c.args.pool.now c.loop-index.pool c.args.table.now.items c.args.run.start c.args.run.count c.loop-index.index c.requires c.loop-index.invariant c.loop-index-test.true count)

pub returns : goal.returns
returns c =
    let all : c.loop-index.index ≡ c.args.run.count = omega arith in
    subst (IsGiven c.args.pool.now c.loop-index.pool c.args.table.now.items c.args.run.start) all c.loop-index.invariant
