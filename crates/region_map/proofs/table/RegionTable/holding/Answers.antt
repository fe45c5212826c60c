-- Only the last row up to the address can hold the range.
use Rattle.std.proofs.Common.{◌≡◌, Some, sym, ap, ◌∙◌, cond}
use Rattle.std.specs.Prelude.{None}
use Rattle.std.specs.Option.{option_and_then}
use Rattle.region_map.specs.RegionRows.{region_of, tag_of, last_to}
use Rattle.region_map.proofs.SearchLemmas.{rising, region_at_last, held, get_last}
use Rattle.region_map.proofs.table.RegionTable.holding.Goals as goal

pub last_to-requires : goal.last_to-requires
last_to-requires c = rising c.self.inside.low c.self.inside.high c.self.inside.rows.items c.self.invariant.table.in_order

pub returns-in_err-row-clause-found : goal.returns-in_err-row-clause-found
returns-in_err-row-clause-found c =
    let none : last_to c.args.address c.self.inside.rows.items ≡ None = sym c.in_err-row.ensures in
    rw (c.from_residual.ensures, ← c.self.view_is)
    (sym (region_at_last c.args.address c.args.length c.self.inside.low c.self.inside.high c.self.inside.rows.items c.requires c.self.invariant.table.in_order
    ∙ ap (option_and_then (held c.args.address c.args.length)) none))

pub returns-then-holds-clause-found : goal.returns-then-holds-clause-found
returns-then-holds-clause-found c =
    rw (← c.self.view_is)
    (sym (region_at_last c.args.address c.args.length c.self.inside.low c.self.inside.high c.self.inside.rows.items c.requires c.self.invariant.table.in_order
    ∙ ap (option_and_then (held c.args.address c.args.length)) (sym c.in_ok-row.ensures)
    ∙ ap (λ b. cond b (Some (c.in_ok-row.row.start, region_of c.in_ok-row.row)) None) (sym c.holds.ensures ∙ c.if-holds.true)))

pub returns-then-holds-clause-tagged : goal.returns-then-holds-clause-tagged
returns-then-holds-clause-tagged c =
    rw (← c.self.view_is)
    (get_last tag_of c.args.address c.self.inside.low c.self.inside.high c.self.inside.rows.items c.in_ok-row.row c.self.invariant.table.in_order
    (sym c.in_ok-row.ensures))

pub returns-else-holds-clause-found : goal.returns-else-holds-clause-found
returns-else-holds-clause-found c =
    rw (← c.self.view_is)
    (sym (region_at_last c.args.address c.args.length c.self.inside.low c.self.inside.high c.self.inside.rows.items c.requires c.self.invariant.table.in_order
    ∙ ap (option_and_then (held c.args.address c.args.length)) (sym c.in_ok-row.ensures)
    ∙ ap (λ b. cond b (Some (c.in_ok-row.row.start, region_of c.in_ok-row.row)) None) (sym c.holds.ensures ∙ c.if-holds.false)))
