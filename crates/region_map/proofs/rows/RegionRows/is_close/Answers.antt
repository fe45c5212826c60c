-- The place at the index is that of the row.
use Rattle.std.proofs.Common.{◌≡◌, ◌+◌, ◌*◌, ◌<◌, ◌≤◌, length, get_or, rules, sym, ap, ◌∙◌, subst, vec_len, arith}
use Rattle.std.proofs.lemmas.Bool.{OnTrue_from, OnFalse_from}
use Rattle.std.proofs.lemmas.Bool.Decides.{nat_tests}
use Rattle.region_map.specs.KnownRows.{IsCloseAt, end_before}
use Rattle.region_map.specs.Places.{RowList, row_at, rows_of}
use Rattle.region_map.proofs.KnownLemmas.{close_from, close_start, close_there}
use Rattle.region_map.proofs.PlaceLemmas.{get_or-rows, length-rows}
use Rattle.region_map.proofs.rows.RegionRows.is_close.Goals as goal

-- there is no row
pub returns-then-at-len-clause-far : goal.returns-then-at-len-clause-far
returns-then-at-len-clause-far c = λ close.
    let places = c.self.inside.places.items in
    let kept = c.self.inside.kept.items in
    let long : length places ≡ vec_len c.self.inside.places = search rules in
    let rows = length-rows kept places in
    let there = close_there c.args.low c.args.pages c.args.at (rows_of kept places) (rw (← c.self.view_is) at close) in
    absurd (omega arith)

pub returns-clause-close : goal.returns-clause-close
returns-clause-close c = OnTrue_from _ _ (λ true.
    let places = c.self.inside.places.items in
    let kept = c.self.inside.kept.items in
    let long : length places ≡ vec_len c.self.inside.places = search rules in
    let within : c.args.at < length places = omega arith in
    let place = c.index.result.now in
    let row = row_at kept place in
    let end = rw (← c.self.view_is) at c.end_before.ensures.value in
    let start = c.start.ensures in
    let less : row.start < end_before c.args.low c.args.at (rows_of kept places) + c.args.pages * 4096 = grind (arith, nat_tests) in
    let same : row ≡ get_or (rows_of kept places) c.args.at row = ap (row_at kept) c.index.ensures ∙ sym (get_or-rows kept places c.args.at row place within) in
    subst (λ (r : RowList). IsCloseAt c.args.low c.args.pages c.args.at r.items) c.self.view_is
    (close_from c.args.low c.args.pages c.args.at (rows_of kept places) row (rw (length-rows kept places) within) same less))

pub returns-clause-far : goal.returns-clause-far
returns-clause-far c = OnFalse_from _ (¬ IsCloseAt c.args.low c.args.pages c.args.at c.args.self.now.items) (λ fails close.
    let places = c.self.inside.places.items in
    let kept = c.self.inside.kept.items in
    let long : length places ≡ vec_len c.self.inside.places = search rules in
    let within : c.args.at < length places = omega arith in
    let place = c.index.result.now in
    let row = row_at kept place in
    let end = rw (← c.self.view_is) at c.end_before.ensures.value in
    let start = c.start.ensures in
    let more : end_before c.args.low c.args.at (rows_of kept places) + c.args.pages * 4096 ≤ row.start = grind (arith, nat_tests) in
    let same : row ≡ get_or (rows_of kept places) c.args.at row = ap (row_at kept) c.index.ensures ∙ sym (get_or-rows kept places c.args.at row place within) in
    let less = close_start c.args.low c.args.pages c.args.at (rows_of kept places) row same (subst (λ (r : RowList). IsCloseAt c.args.low c.args.pages c.args.at r.items) (sym c.self.view_is) close) in
    absurd (omega arith))
