-- The words lie in one page of the run, and no other page changes.
use Rattle.std.proofs.Common.{ℕ, ◌+◌, ◌%◌, ◌≤◌, [], ◌++◌, length, arith}
use Rattle.trade_base.specs.Word.{word_bytes}
use Rattle.trade_base.proofs.WordLemmas.{length-word_bytes}
use Rattle.dataspace_core.proofs.RunLemmas.{page_in_read, is_taken-held}
use Rattle.dataspace_core.proofs.WalkLemmas.{IsInPage, piece_in_page}
use Rattle.dataspace_core.proofs.WriteLemmas.{IsWritten-nothing, IsWritten-word_more, two_long}
use Rattle.dataspace_core.proofs.page_runs.store_run_words.Goals as goal

-- fewer bytes from there on are in the page too
fewer : (count offset n : ℕ) → n ≤ 24 → IsInPage count offset 24 → IsInPage count offset n
fewer count offset n less here = record { below = here.below; place = here.place; fits = let fits = here.fits in omega (arith, fits, less) }

one_long : (first : ℕ) → length (word_bytes first) + 8 ≤ 24
one_long first = omega (arith, length-word_bytes first)

pub store-requires-clause-taken : goal.store-requires-clause-taken
store-requires-clause-taken c =
    let q = c.requires in
    let here = piece_in_page q.0 c.args.offset 24 q.2 in
    rw (page_in_read c.args.table.now.items c.args.start q.0 _ c.index-page.result.now q.1.within here.below c.index-page.ensures)
    (is_taken-held c.args.pool.now _ (q.1.held _ here.below))

pub store-requires-2-clause-taken : goal.store-requires-2-clause-taken
store-requires-2-clause-taken c =
    let q = c.requires in
    let here = piece_in_page q.0 c.args.offset 24 q.2 in
    let page = page_in_read c.args.table.now.items c.args.start q.0 _ c.index-page.result.now q.1.within here.below c.index-page.ensures in
    let first = IsWritten-word_more c.args.pool.now c.args.pool.now c.store.new.self c.args.table.now.items c.args.start q.0 c.args.offset [] c.args.words.0 c.index-page.result.now.0 (c.args.offset % 4096) q.1 (IsWritten-nothing c.args.pool.now c.args.table.now.items c.args.start q.0 c.args.offset q.1) (fewer q.0 c.args.offset 8 (omega arith) here) page (omega arith) c.store.ensures.written c.store.ensures.count in
    rw page (is_taken-held c.store.new.self _ (first.held _ here.below))

pub store-requires-3-clause-taken : goal.store-requires-3-clause-taken
store-requires-3-clause-taken c =
    let q = c.requires in
    let here = piece_in_page q.0 c.args.offset 24 q.2 in
    let page = page_in_read c.args.table.now.items c.args.start q.0 _ c.index-page.result.now q.1.within here.below c.index-page.ensures in
    let first = IsWritten-word_more c.args.pool.now c.args.pool.now c.store.new.self c.args.table.now.items c.args.start q.0 c.args.offset [] c.args.words.0 c.index-page.result.now.0 (c.args.offset % 4096) q.1 (IsWritten-nothing c.args.pool.now c.args.table.now.items c.args.start q.0 c.args.offset q.1) (fewer q.0 c.args.offset 8 (omega arith) here) page (omega arith) c.store.ensures.written c.store.ensures.count in
    let second = IsWritten-word_more c.args.pool.now c.store.new.self c.store-2.new.self c.args.table.now.items c.args.start q.0 c.args.offset (word_bytes c.args.words.0) c.args.words.1 c.index-page.result.now.0 (c.args.offset % 4096 + 8) q.1 first (fewer q.0 c.args.offset _ (one_long c.args.words.0) here) page (omega (arith, length-word_bytes c.args.words.0)) c.store-2.ensures.written c.store-2.ensures.count in
    rw page (is_taken-held c.store-2.new.self _ (second.held _ here.below))

pub returns : goal.returns
returns c count run piece =
    let here = piece_in_page count c.args.offset 24 piece in
    let page = page_in_read c.args.table.now.items c.args.start count _ c.index-page.result.now run.within here.below c.index-page.ensures in
    let first = IsWritten-word_more c.args.pool.now c.args.pool.now c.store.new.self c.args.table.now.items c.args.start count c.args.offset [] c.args.words.0 c.index-page.result.now.0 (c.args.offset % 4096) run (IsWritten-nothing c.args.pool.now c.args.table.now.items c.args.start count c.args.offset run) (fewer count c.args.offset 8 (omega arith) here) page (omega arith) c.store.ensures.written c.store.ensures.count in
    let second = IsWritten-word_more c.args.pool.now c.store.new.self c.store-2.new.self c.args.table.now.items c.args.start count c.args.offset (word_bytes c.args.words.0) c.args.words.1 c.index-page.result.now.0 (c.args.offset % 4096 + 8) run first (fewer count c.args.offset _ (one_long c.args.words.0) here) page (omega (arith, length-word_bytes c.args.words.0)) c.store-2.ensures.written c.store-2.ensures.count in
    let long = two_long c.args.words.0 c.args.words.1 in
    IsWritten-word_more c.args.pool.now c.store-2.new.self c.store-3.new.self c.args.table.now.items c.args.start count c.args.offset (word_bytes c.args.words.0 ++ word_bytes c.args.words.1) c.args.words.2 c.index-page.result.now.0 (c.args.offset % 4096 + 16) run second (fewer count c.args.offset _ (omega (arith, long)) here) page (omega (arith, long)) c.store-3.ensures.written c.store-3.ensures.count
