-- The last row up to an address stands before their count.
use Rattle.std.proofs.Common.{◌≡◌, ◌-◌, suc, sym, ◌∙◌, arith}
use Rattle.region_map.proofs.SearchLemmas.{last_of_none, last_of_some}
use Rattle.region_map.proofs.rows.RegionRows.last_to.Goals as goal

pub returns-then-count-eq0 : goal.returns-then-count-eq0
returns-then-count-eq0 c = sym (last_of_none c.args.address c.args.self.now.items (sym c.count_to-count.ensures.count ∙ c.if-count-eq0.true))

pub returns : goal.returns
returns c =
    let more : c.count_to-count.result ≡ suc (c.count_to-count.result - 1) = omega arith in
    sym (last_of_some c.args.address (c.count_to-count.result - 1) c.args.self.now.items c.row.result (sym c.count_to-count.ensures.count ∙ more) c.row.ensures)
