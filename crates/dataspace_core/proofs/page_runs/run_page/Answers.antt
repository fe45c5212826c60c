-- The bytes are those of one page of the run.
use Rattle.std.proofs.Common.{◌*◌, ◌/◌, ap, ◌∙◌, length, arith}
use Rattle.std.specs.Prelude.{slice_range}
use Rattle.trade_base.proofs.BytesLemmas.{length-slice_range}
use Rattle.dataspace_core.specs.Layout.{run_bytes}
use Rattle.page_pool.specs.Pages.{page_bytes}
use Rattle.dataspace_core.proofs.RunLemmas.{page_in_read, is_taken-held, length-run_bytes}
use Rattle.dataspace_core.proofs.ReadLemmas.{run_page}
use Rattle.dataspace_core.proofs.WalkLemmas.{page_below}
use Rattle.dataspace_core.proofs.page_runs.run_page.Goals as goal

pub part-requires-clause-taken : goal.part-requires-clause-taken
part-requires-clause-taken c =
    let q = c.requires in
    let here = page_below c.args.offset q.0 q.2 in
    rw (page_in_read c.args.table.now.items c.args.start q.0 _ c.index.result.now q.1.within here c.index.ensures)
    (is_taken-held c.args.pool.now _ (q.1.held _ here))

pub returns-clause-bytes : goal.returns-clause-bytes
returns-clause-bytes c count run range =
    let here = page_below c.args.offset count range in
    let page = page_in_read c.args.table.now.items c.args.start count _ c.index.result.now run.within here c.index.ensures in
    c.part.ensures.bytes ∙ ap (λ p. slice_range (page_bytes c.args.pool.now p) 0 4096) page
    ∙ run_page c.args.pool.now c.args.table.now.items c.args.start count (c.args.offset / 4096) run here

pub returns-clause-size : goal.returns-clause-size
returns-clause-size c =
    let q = c.requires in
    let run = run_bytes c.args.pool.now c.args.table.now.items c.args.start q.0 in
    let long = length-run_bytes c.args.pool.now c.args.table.now.items c.args.start q.0 q.1.held in
    let here = page_below c.args.offset q.0 q.2 in
    ap length (returns-clause-bytes c q.0 q.1 q.2) ∙ length-slice_range run (c.args.offset / 4096 * 4096) 4096 (omega (arith, long, here))
