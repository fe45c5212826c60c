-- Pages meet a region where they meet the last one that starts before their end.
use Rattle.std.proofs.Common.{◌≡◌, ◌+◌, ◌-◌, ◌*◌, Some, sym, ap, ◌∙◌, nat_lt, arith}
use Rattle.std.specs.Prelude.{None}
use Rattle.region_map.specs.RegionRows.{last_to}
use Rattle.region_map.proofs.SearchLemmas.{rising, meets_last, ends_after}
use Rattle.region_map.proofs.table.RegionTable.meets.Goals as goal

pub last_to-requires : goal.last_to-requires
last_to-requires c = rising c.self.inside.low c.self.inside.high c.self.inside.rows.items c.self.invariant.table.in_order

pub returns-in-Some : goal.returns-in-Some
returns-in-Some c =
    let bound = c.args.address + c.args.pages * 4096 - 1 in
    let last : last_to bound c.self.inside.rows.items ≡ Some c.in-Some.row = sym c.last_to.ensures ∙ c.in-Some.is in
    rw (← c.self.view_is)
    (ap (nat_lt c.args.address) c.end.ensures
    ∙ sym (meets_last c.args.address c.args.pages bound c.self.inside.low c.self.inside.high c.self.inside.rows.items (omega arith) c.self.invariant.table.in_order ∙ ap (ends_after c.args.address) last))

pub returns-in-None : goal.returns-in-None
returns-in-None c =
    let bound = c.args.address + c.args.pages * 4096 - 1 in
    let none : last_to bound c.self.inside.rows.items ≡ None = sym c.last_to.ensures ∙ c.in-None.is in
    rw (← c.self.view_is)
    (sym (meets_last c.args.address c.args.pages bound c.self.inside.low c.self.inside.high c.self.inside.rows.items (omega arith) c.self.invariant.table.in_order ∙ ap (ends_after c.args.address) none))
