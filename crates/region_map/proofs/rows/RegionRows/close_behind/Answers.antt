-- The rows behind are those of the places behind.
use Rattle.std.proofs.Common.{◌^◌, ◌<◌, drop, length, rules, ap, ◌∙◌, arith}
use Rattle.std.proofs.lemmas.List.{length-drop}
use Rattle.region_map.specs.Places.{rows_of}
use Rattle.region_map.specs.KnownRows.{close_to, end_before}
use Rattle.region_map.proofs.KnownLemmas.{close_to-within}
use Rattle.region_map.proofs.PlaceLemmas.{drop-rows, length-rows}
use Rattle.region_map.proofs.rows.RegionRows.close_behind.Goals as goal

pub returns-clause-count : goal.returns-clause-count
returns-clause-count c =
    let kept = c.self.inside.kept.items in
    rw (← c.self.view_is)
    (c.close_count.ensures kept
    ∙ ap (λ end. close_to end c.args.pages (rows_of kept c.behind.result.now)) (rw (← c.self.view_is) at c.end_before.ensures.value)
    ∙ ap (close_to (end_before c.args.low c.args.from (rows_of kept c.self.inside.places.items)) c.args.pages) (ap (rows_of kept) (c.behind.ensures ∙ ap (drop c.args.from) c.deref.ensures.value) ∙ drop-rows kept c.self.inside.places.items c.args.from))

-- the places are no more than an index can count
pub returns-clause-short : goal.returns-clause-short
returns-clause-short c =
    let kept = c.self.inside.kept.items in
    let places = c.self.inside.places.items in
    let there = rw (← c.self.view_is) at c.requires.there in
    let long = length-rows kept places in
    let behind = ap length (c.behind.ensures ∙ ap (drop c.args.from) c.deref.ensures.value) ∙ length-drop c.args.from places in
    let rest = length-rows kept c.behind.result.now in
    let walk = close_to-within c.end_before.result c.args.pages (rows_of kept c.behind.result.now) in
    let same = c.close_count.ensures kept in
    let few : length places < 2 ^ 64 = search rules in
    omega arith
