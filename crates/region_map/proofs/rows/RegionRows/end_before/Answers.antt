-- The row before an index is that of the place before it.
use Rattle.std.proofs.Common.{◌≡◌, ◌-◌, ◌<◌, ◌≤◌, suc, length, get_or, sym, ap, ◌∙◌, subst, arith}
use Rattle.region_map.specs.KnownRows.{end_before}
use Rattle.region_map.specs.Places.{RowList, row_at, rows_of}
use Rattle.region_map.proofs.KnownLemmas.{end_before-row}
use Rattle.region_map.proofs.PlaceLemmas.{get_or-rows, length-rows}
use Rattle.region_map.proofs.rows.RegionRows.end_before.Goals as goal

pub returns-then-at-eq0-clause-value : goal.returns-then-at-eq0-clause-value
unfolding end_before
returns-then-at-eq0-clause-value c = ap (λ n. end_before c.args.low n c.args.self.now.items) (sym c.if-at-eq0.true)

pub returns-else-at-eq0-clause-value : goal.returns-else-at-eq0-clause-value
returns-else-at-eq0-clause-value c =
    let places = c.self.inside.places.items in
    let kept = c.self.inside.kept.items in
    let there = subst (λ (r : RowList). c.args.at ≤ length r.items) (sym c.self.view_is) c.requires in
    let long = length-rows kept places in
    let some = c.if-at-eq0.false in
    let within : c.args.at - 1 < length places = omega arith in
    let next : suc (c.args.at - 1) ≡ c.args.at = omega arith in
    let place = c.index.result.now in
    let row = row_at kept place in
    let same : row ≡ get_or (rows_of kept places) (c.args.at - 1) row = ap (row_at kept) c.index.ensures ∙ sym (get_or-rows kept places (c.args.at - 1) row place within) in
    rw (← c.self.view_is)
    (c.end.ensures
    ∙ sym (end_before-row c.args.low (c.args.at - 1) (rows_of kept places) row (omega arith) same)
    ∙ ap (λ n. end_before c.args.low n (rows_of kept places)) next)

pub returns-else-at-eq0-clause-small : goal.returns-else-at-eq0-clause-small
returns-else-at-eq0-clause-small c = λ small. let fits = c.index.result.now.fits in rw c.end.ensures (omega arith)
