-- The word lies in one page of the run, and no other page changes.
use Rattle.dataspace_core.proofs.RunLemmas.{page_in_read, is_taken-held}
use Rattle.dataspace_core.proofs.WalkLemmas.{word_in_page}
use Rattle.dataspace_core.proofs.WriteLemmas.{IsWritten-word}
use Rattle.dataspace_core.proofs.page_runs.store_run.Goals as goal

pub store-requires-clause-taken : goal.store-requires-clause-taken
store-requires-clause-taken c =
    let q = c.requires in
    let here = word_in_page q.0 c.args.offset q.2.aligned q.2.within in
    rw (page_in_read c.args.table.now.items c.args.start q.0 _ c.index-page.result.now q.1.within here.below c.index-page.ensures)
    (is_taken-held c.args.pool.now _ (q.1.held _ here.below))

pub returns : goal.returns
returns c count run word =
    let here = word_in_page count c.args.offset word.aligned word.within in
    let page = page_in_read c.args.table.now.items c.args.start count _ c.index-page.result.now run.within here.below c.index-page.ensures in
    let written = rw page at c.store.ensures.written in
    let count_kept = rw written at c.store.ensures.count in
    rw written (IsWritten-word c.args.pool.now c.args.table.now.items c.args.start count c.args.offset c.args.word run here count_kept)
