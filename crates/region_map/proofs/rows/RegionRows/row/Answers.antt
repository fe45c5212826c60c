-- The row is that of its place and its slot.
use Rattle.std.proofs.Common.{◌≡◌, ◌<◌, length, rules, refl, sym, subst, vec_len, arith}
use Rattle.region_map.specs.Places.{RowList}
use Rattle.region_map.proofs.PlaceLemmas.{slot_there, read_row}
use Rattle.region_map.proofs.rows.RegionRows.row.Goals as goal

pub overflow_cast-place : goal.overflow_cast-place
overflow_cast-place c =
    let among = subst (λ (r : RowList). c.args.at < length r.items) (sym c.self.view_is) c.requires in
    let there = slot_there _ _ _ _ _ _ c.args.at c.index.result.now c.self.invariant among c.index.ensures in
    let within = c.self.invariant.within in
    let few = c.self.invariant.few in
    omega arith

pub index-kept-requires : goal.index-kept-requires
index-kept-requires c =
    let among = subst (λ (r : RowList). c.args.at < length r.items) (sym c.self.view_is) c.requires in
    let there = slot_there _ _ _ _ _ _ c.args.at c.index.result.now c.self.invariant among c.index.ensures in
    let long : length c.self.inside.kept.items ≡ vec_len c.self.inside.kept = search rules in
    omega arith

pub returns : goal.returns
returns c =
    let among = subst (λ (r : RowList). c.args.at < length r.items) (sym c.self.view_is) c.requires in
    rw (← c.self.view_is)
    (read_row c.self.inside.places.items c.self.inside.kept.items _ _ _ _ c.args.at c.index.result.now c.self.invariant among c.index.ensures c.index-kept.result.now _ c.index-kept.ensures c.start.ensures refl refl refl _)
