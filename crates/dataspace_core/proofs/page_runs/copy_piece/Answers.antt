-- The piece lies in one page of either run, and no other page changes.
use Rattle.std.proofs.Common.{◌≡◌, ◌+◌, length, arith}
use Rattle.std.specs.Prelude.{slice_range}
use Rattle.trade_base.proofs.BytesLemmas.{length-slice_range}
use Rattle.dataspace_core.specs.Layout.{run_bytes}
use Rattle.dataspace_core.proofs.RunLemmas.{page_in_read, is_taken-held, length-run_bytes}
use Rattle.dataspace_core.proofs.ReadLemmas.{run_range}
use Rattle.dataspace_core.proofs.WalkLemmas.{piece_in_page}
use Rattle.dataspace_core.proofs.WriteLemmas.{IsWritten-part}
use Rattle.dataspace_core.proofs.page_runs.copy_piece.Goals as goal

pub copy-requires-clause-source : goal.copy-requires-clause-source
copy-requires-clause-source c =
    let here = piece_in_page c.args.from.run.count c.args.from.offset c.args.count c.requires.there in
    rw (page_in_read c.args.table.now.items c.args.from.run.start c.args.from.run.count _ c.index-source.result.now c.requires.source.within here.below c.index-source.ensures)
    (is_taken-held c.args.pool.now _ (c.requires.source.held _ here.below))

pub copy-requires-clause-target : goal.copy-requires-clause-target
copy-requires-clause-target c =
    let here = piece_in_page c.args.to.run.count c.args.to.offset c.args.count c.requires.room in
    rw (page_in_read c.args.table.now.items c.args.to.run.start c.args.to.run.count _ c.index-target.result.now c.requires.target.within here.below c.index-target.ensures)
    (is_taken-held c.args.pool.now _ (c.requires.target.held _ here.below))

pub copy-requires-clause-apart : goal.copy-requires-clause-apart
copy-requires-clause-apart c =
    let there = piece_in_page c.args.from.run.count c.args.from.offset c.args.count c.requires.there in
    let here = piece_in_page c.args.to.run.count c.args.to.offset c.args.count c.requires.room in
    rw (
      page_in_read c.args.table.now.items c.args.from.run.start c.args.from.run.count _ c.index-source.result.now c.requires.source.within there.below c.index-source.ensures,
      page_in_read c.args.table.now.items c.args.to.run.start c.args.to.run.count _ c.index-target.result.now c.requires.target.within here.below c.index-target.ensures,
    )
    (c.requires.apart _ _ there.below here.below)

pub returns : goal.returns
returns c =
    let a = c.args in
    let there = piece_in_page a.from.run.count a.from.offset a.count c.requires.there in
    let here = piece_in_page a.to.run.count a.to.offset a.count c.requires.room in
    let bytes = run_bytes a.pool.now a.table.now.items a.from.run.start a.from.run.count in
    let size = length-run_bytes a.pool.now a.table.now.items a.from.run.start a.from.run.count c.requires.source.held in
    let long : length (slice_range bytes a.from.offset (a.from.offset + a.count)) ≡ a.count = length-slice_range bytes a.from.offset a.count (omega (arith, size, c.requires.there.within)) in
    let source = page_in_read a.table.now.items a.from.run.start a.from.run.count _ c.index-source.result.now c.requires.source.within there.below c.index-source.ensures in
    let target = page_in_read a.table.now.items a.to.run.start a.to.run.count _ c.index-target.result.now c.requires.target.within here.below c.index-target.ensures in
    let copied = rw (source, target, run_range a.pool.now a.table.now.items a.from.run.start a.from.run.count a.from.offset a.count c.requires.source there) at c.copy.ensures.copied in
    let count = rw copied at c.copy.ensures.count in
    rw copied (IsWritten-part a.pool.now a.table.now.items a.to.run.start a.to.run.count a.to.offset (slice_range bytes a.from.offset (a.from.offset + a.count)) c.requires.target (rw long here) count)
