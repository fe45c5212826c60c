-- A row comes in front of the row that may not be close, there, behind it, or past all that are known.
use Rattle.std.proofs.Common.{◌+◌, refl, arith}
use Rattle.std.proofs.lemmas.Bool.{OnTrue_at}
use Rattle.region_map.proofs.KnownLemmas.{longer, known-insert_front, known-insert_next, known-insert_between, known-insert_cut}
use Rattle.region_map.proofs.known_rows.KnownRows.with_row.Goals as goal

pub returns-then-self-at-2-clause-known : goal.returns-then-self-at-2-clause-known
returns-then-self-at-2-clause-known c =
    let k = c.requires.known in
    record {
      within = let within = k.was.within in omega (arith, longer _ _ _ _ k);
      close = rw k.is (known-insert_cut c.args.low c.args.self.pages c.args.self.count c.args.self.until c.args.at k.old k.was.close k.row c.args.self.until (omega arith) (omega arith));
    }

pub returns-then-self-at-clause-known : goal.returns-then-self-at-clause-known
returns-then-self-at-clause-known c =
    let k = c.requires.known in
    record {
      within = let within = k.was.within in omega (arith, longer _ _ _ _ k);
      close = rw k.is (known-insert_between c.args.low c.args.self.pages c.args.self.count c.args.self.until c.args.at k.old k.was.close k.high k.row (rw k.is at k.order) (c.args.self.count + 1) (c.args.self.until + 1) refl refl (omega arith) (omega arith));
    }

pub returns-then-at-self-clause-known : goal.returns-then-at-self-clause-known
returns-then-at-self-clause-known c =
    let k = c.requires.known in
    let order = c.args.self.order in
    record {
      within = let within = k.was.within in omega (arith, longer _ _ _ _ k);
      close = rw k.is (known-insert_front c.args.low c.args.self.pages c.args.self.count c.args.self.until c.args.at k.old k.was.close k.high k.row (rw k.is at k.order) (c.args.self.count + 1) (c.args.self.until + 1) refl refl (omega arith) order);
    }

pub joined-requires-clause-known : goal.joined-requires-clause-known
joined-requires-clause-known c =
    let k = c.requires.known in
    let order = c.args.self.order in
    record {
      within = let within = k.was.within in omega (arith, longer _ _ _ _ k);
      close = rw k.is (known-insert_next c.args.low c.args.self.pages c.args.self.count c.args.self.until c.args.at k.old k.was.close k.high k.row (rw k.is at k.order) (c.args.self.count + 1) (c.args.self.until + 1) refl refl (omega arith) order (rw k.is at (OnTrue_at c.if-is_close.true c.is_close.ensures.close)));
    }

pub returns-clause-known : goal.returns-clause-known
returns-clause-known c =
    let k = c.requires.known in
    let order = c.args.self.order in
    record {
      within = let within = k.was.within in omega (arith, longer _ _ _ _ k);
      close = rw k.is (known-insert_cut c.args.low c.args.self.pages c.args.self.count c.args.self.until c.args.at k.old k.was.close k.row c.args.self.count order (omega arith));
    }
