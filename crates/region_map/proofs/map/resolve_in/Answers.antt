-- What holds the range starts at its address or before.
use Rattle.std.proofs.Common.{sym}
use Rattle.own_model.proofs.RegionLemmas.{region_at_facts}
use Rattle.region_map.specs.RegionRows.{region_of}
use Rattle.region_map.proofs.map.resolve_in.Goals as goal

pub overflow_sub-result : goal.overflow_sub-result
overflow_sub-result c =
    (region_at_facts c.args.table.now.regions c.args.address c.args.length (c.in_ok-row.row.start, region_of c.in_ok-row.row) (sym c.in_ok-row.ensures.found)).1
