-- The entries from the first of its kind on are all that can have the path.
use Rattle.std.proofs.Common.{length, refl, sym, arith}
use Rattle.std.proofs.lemmas.Option.{slice_get_read}
use Rattle.list_parser.proofs.FinderLemmas.{found_at, found_nowhere, none_next}
use Rattle.list_parser.proofs.path_index.PathIndex.find.Goals as goal

pub returns-then-eq : goal.returns-then-eq
returns-then-eq c =
    let here = slice_get_read c.args.entries.now (length c.args.entries.now) c.loop-place.place c.index-entries-place.result refl c.loop-place-test.true c.index-entries-place.is in
    sym (found_at _ c.args.entries.now c.loop-place.place c.index-entries-place.result c.loop-place.invariant here (grind arith))

pub loop-place-preserved : goal.loop-place-preserved
loop-place-preserved c =
    let here = slice_get_read c.args.entries.now (length c.args.entries.now) c.loop-place.place c.index-entries-place.result refl c.loop-place-test.true c.index-entries-place.is in
    none_next _ c.args.entries.now c.loop-place.place c.index-entries-place.result here (grind arith) c.loop-place.invariant

pub returns : goal.returns
returns c =
    sym (found_nowhere _ c.args.entries.now (λ k x less at. c.loop-place.invariant k x (omega (arith, less, c.loop-place-test.false)) at))
