-- A slot takes the rest of the row, and its place is put in.
use Rattle.std.proofs.Common.{◌≡◌, ◌<◌, length, rules, sym, ap, ◌∙◌, subst, vec_len, true, arith}
use Rattle.std.specs.Prelude.{is_ok}
use Rattle.std.specs.List.{insert}
use Rattle.region_map.specs.Places.{RowList, rows_of}
use Rattle.region_map.proofs.PlaceLemmas.{length-rows, taken, inserted}
use Rattle.region_map.proofs.rows.RegionRows.insert.Goals as goal

pub index_mut-requires : goal.index_mut-requires
index_mut-requires c =
    let long : length c.free_slot-slot.new.kept.items ≡ vec_len c.free_slot-slot.new.kept = search rules in
    let there = (taken _ _ _ _ _ _ _ _ _ c.self.invariant c.free_slot-slot.ensures.slot).there in
    omega arith

put_in : (c : goal.After-insert) → c.insert.new.self.items ≡ insert c.self.inside.places.items c.args.at c.of.result
put_in c =
    let room = subst (λ (r : RowList). length r.items < r.capacity) (sym c.self.view_is) c.requires.room in
    let long = length-rows c.self.inside.kept.items c.self.inside.places.items in
    let count : length c.self.inside.places.items ≡ vec_len c.self.inside.places = search rules in
    let ok : is_ok c.insert.result ≡ true = c.insert.ensures.succeeds (omega arith) in
    rw ok at c.insert.ensures.items

pub returns-clause-items : goal.returns-clause-items
returns-clause-items c =
    let slot = taken _ _ _ _ _ _ _ _ _ c.self.invariant c.free_slot-slot.ensures.slot in
    rw (← c.self.view_is)
    (ap (rows_of _) (put_in c)
    ∙ inserted c.free_slot-slot.new.kept.items c.self.inside.places.items c.args.at c.free_slot-slot.result c.of.result c.args.row c.of.ensures.start c.of.ensures.pages c.of.ensures.slot slot.there slot.none
    ∙ ap (λ rows. insert rows c.args.at c.args.row) slot.rows)
