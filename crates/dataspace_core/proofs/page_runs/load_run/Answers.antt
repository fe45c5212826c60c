-- The word lies in one page of the run.
use Rattle.std.proofs.Common.{ap, ◌∙◌, ◌+◌, ◌%◌}
use Rattle.std.specs.Prelude.{slice_range}
use Rattle.trade_base.specs.Word.{word_of}
use Rattle.page_pool.specs.Pages.{page_bytes}
use Rattle.dataspace_core.proofs.RunLemmas.{page_in_read, is_taken-held}
use Rattle.dataspace_core.proofs.WalkLemmas.{word_in_page}
use Rattle.dataspace_core.proofs.ReadLemmas.{run_range}
use Rattle.dataspace_core.proofs.page_runs.load_run.Goals as goal

pub load-requires-clause-taken : goal.load-requires-clause-taken
load-requires-clause-taken c =
    let q = c.requires in
    let here = word_in_page q.0 c.args.offset q.2.aligned q.2.within in
    rw (page_in_read c.args.table.now.items c.args.start q.0 _ c.index-page.result.now q.1.within here.below c.index-page.ensures)
    (is_taken-held c.args.pool.now _ (q.1.held _ here.below))

pub returns : goal.returns
returns c count run word =
    let here = word_in_page count c.args.offset word.aligned word.within in
    let page = page_in_read c.args.table.now.items c.args.start count _ c.index-page.result.now run.within here.below c.index-page.ensures in
    c.load.ensures.word
    ∙ ap (λ p. word_of (slice_range (page_bytes c.args.pool.now p) (c.args.offset % 4096) (c.args.offset % 4096 + 8))) page
    ∙ ap word_of (run_range c.args.pool.now c.args.table.now.items c.args.start count c.args.offset 8 run here)
