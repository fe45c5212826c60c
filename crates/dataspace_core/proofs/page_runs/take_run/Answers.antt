-- A free page and room in the table are left for each round, and the page makes a longer run.
use Rattle.std.proofs.Common.{◌≡◌, arith, subst, refl, ◌∙◌}
use Rattle.std.proofs.lemmas.Bool.Decides.{nat_tests}
use Rattle.dataspace_core.specs.Layout.{IsNewRun}
use Rattle.dataspace_core.proofs.RunLemmas.{IsNewRun-none, IsNewRun-more}
use Rattle.dataspace_core.proofs.page_runs.take_run.Goals as goal

pub loop-index-init : goal.loop-index-init
loop-index-init c = record { run = IsNewRun-none c.args.pool.now c.args.table.now.items c.len-start.result (omega (arith, c.args.table.now.ok)); capacity = refl }

pub unwrap-requires : goal.unwrap-requires
unwrap-requires c = grind (arith, nat_tests, c.take.ensures.some, c.loop-index.invariant.run.taken, c.requires.free)

pub loop-index-preserved : goal.loop-index-preserved
loop-index-preserved c =
    let free = rw c.unwrap.ensures at c.take.ensures.was_free in
    let cleared = rw c.unwrap.ensures at c.take.ensures.cleared in
    let count = rw c.unwrap.ensures at c.take.ensures.count in
    record {
      run = rw (cleared, c.push_reserved.ensures.items)
          (IsNewRun-more c.args.pool.now c.loop-index.pool c.args.table.now.items c.loop-index.table.items c.len-start.result c.loop-index._index c.unwrap.result c.loop-index.invariant.run free (rw cleared at count));
      capacity = c.push_reserved.ensures.capacity ∙ c.loop-index.invariant.capacity;
    }

pub returns-clause-run : goal.returns-clause-run
returns-clause-run c =
    let all : c.loop-index._index ≡ c.args.count = omega arith in
    subst (IsNewRun c.args.pool.now c.args.table.now.items c.loop-index.pool c.loop-index.table.items c.len-start.result) all c.loop-index.invariant.run
