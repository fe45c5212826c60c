-- From row to row the walk goes on, or ends.
use Rattle.std.proofs.Common.{◌≡◌, suc, ◌+◌, drop, ap, ◌∙◌, arith}
use Rattle.region_map.specs.Places.{row_at, rows_of}
use Rattle.region_map.specs.RegionRows.{end_of}
use Rattle.region_map.specs.KnownRows.{close_to}
use Rattle.region_map.proofs.KnownLemmas.{close_to-stop, close_to-next, close_to-end}
use Rattle.region_map.proofs.PlaceLemmas.{rows-next, rows-end}
use Rattle.region_map.proofs.search.close_count.Goals as goal

pub returns-then-address-pages : goal.returns-then-address-pages
returns-then-address-pages c = λ kept.
    let row = row_at kept c.place-item.result in
    let rest = rows_of kept (drop (c.loop-place.place-index + 1) c.args.places.now) in
    let none : close_to c.loop-place.address c.args.pages (rows_of kept (drop c.loop-place.place-index c.args.places.now)) ≡ 0 =
    ap (close_to c.loop-place.address c.args.pages) (rows-next kept c.args.places.now c.loop-place.place-index c.place-item.result c.loop-place-test.true c.place-item.is)
    ∙ close_to-stop c.loop-place.address c.args.pages row rest (rw c.start.ensures at c.if-address-pages.true) in
    let same = c.loop-place.invariant.same kept in
    omega arith

pub loop-place-preserved : goal.loop-place-preserved
loop-place-preserved c = record {
  small = let fits = c.place-item.result.fits in rw c.end-address.ensures (omega arith);
  counted = let counted = c.loop-place.invariant.counted in omega arith;
  same = λ kept.
      let row = row_at kept c.place-item.result in
      let rest = rows_of kept (drop (c.loop-place.place-index + 1) c.args.places.now) in
      let next : close_to c.loop-place.address c.args.pages (rows_of kept (drop c.loop-place.place-index c.args.places.now)) ≡ suc (close_to (end_of row) c.args.pages rest) =
      ap (close_to c.loop-place.address c.args.pages) (rows-next kept c.args.places.now c.loop-place.place-index c.place-item.result c.loop-place-test.true c.place-item.is)
      ∙ close_to-next c.loop-place.address c.args.pages row rest (rw c.start.ensures at c.if-address-pages.false) in
      let same = c.loop-place.invariant.same kept in
      rw c.end-address.ensures (omega arith);
}

pub returns : goal.returns
returns c = λ kept.
    let none : close_to c.loop-place.address c.args.pages (rows_of kept (drop c.loop-place.place-index c.args.places.now)) ≡ 0 =
    ap (close_to c.loop-place.address c.args.pages) (rows-end kept c.args.places.now c.loop-place.place-index c.loop-place-test.false)
    ∙ close_to-end c.loop-place.address c.args.pages in
    let same = c.loop-place.invariant.same kept in
    omega arith
