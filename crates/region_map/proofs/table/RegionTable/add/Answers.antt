-- What can stand is a row.
use Rattle.std.proofs.Common.{arith}
use Rattle.own_model.proofs.RegionLemmas.{place}
use Rattle.region_map.proofs.table.RegionTable.add.Goals as goal

pub invariant_of-put : goal.invariant_of-put
invariant_of-put c =
    let at = place c.args.self.now.low c.args.self.now.high c.args.self.now.regions c.args.pages c.args.address c.requires.place in
    let end = at.to_high in
    let small = c.requires.sound.small in
    record { aligned = at.aligned; some = c.requires.some; fits = omega arith }
