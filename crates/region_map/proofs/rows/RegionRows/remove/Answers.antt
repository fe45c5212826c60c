-- The place is taken out, and its slot is free.
use Rattle.std.proofs.Common.{◌≡◌, ◌<◌, length, rules, sym, ap, ◌∙◌, subst, vec_len, arith}
use Rattle.region_map.specs.Places.{RowList, rows_of}
use Rattle.region_map.proofs.PlaceLemmas.{length-rows, remove-rows}
use Rattle.region_map.proofs.rows.RegionRows.remove.Goals as goal

pub push_reserved-requires : goal.push_reserved-requires
push_reserved-requires c =
    let below = subst (λ (r : RowList). c.args.at < length r.items) (sym c.self.view_is) c.requires in
    let long = length-rows c.self.inside.kept.items c.self.inside.places.items in
    let count : length c.self.inside.free.items ≡ vec_len c.self.inside.free = search rules in
    let counted = c.self.invariant.counted in
    let within = c.self.invariant.within in
    let roomy = c.self.invariant.free_roomy in
    omega arith

pub returns-clause-items : goal.returns-clause-items
returns-clause-items c =
    rw (← c.self.view_is) (ap (rows_of c.self.inside.kept.items) c.remove-place.ensures.items ∙ remove-rows c.self.inside.kept.items c.self.inside.places.items c.args.at)
