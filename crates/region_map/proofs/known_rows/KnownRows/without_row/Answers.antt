-- A row goes in front of the row that may not be close, or behind it, and the gap that it leaves is small, or may not be.
use Rattle.std.proofs.Common.{◌-◌, arith}
use Rattle.std.proofs.lemmas.Bool.{OnTrue_at}
use Rattle.region_map.proofs.KnownLemmas.{shorter, known-remove_in, known-remove_past, known-remove_front, known-remove_cut}
use Rattle.region_map.proofs.known_rows.KnownRows.without_row.Goals as goal

pub returns-then-at-self-clause-known : goal.returns-then-at-self-clause-known
returns-then-at-self-clause-known c =
    let k = c.requires.known in
    record {
      within = let within = k.was.within in omega (arith, k.there, shorter _ _ _ _ k);
      close = rw k.is (known-remove_cut c.args.low c.args.self.pages c.args.self.count c.args.self.until c.args.at k.old k.was.close c.args.self.until (omega arith) (omega arith));
    }

pub returns-then-at-self-2-clause-known : goal.returns-then-at-self-2-clause-known
returns-then-at-self-2-clause-known c =
    let k = c.requires.known in
    let order = c.args.self.order in
    record {
      within = let within = k.was.within in omega (arith, shorter _ _ _ _ k);
      close = rw k.is (known-remove_in c.args.low c.args.self.pages c.args.self.count c.args.self.until c.args.at k.old k.was.close (c.args.self.count - 1) (omega arith) (omega arith) order (rw k.is at (OnTrue_at c.if-is_close.true c.is_close.ensures.close)));
    }

pub returns-then-is_close-clause-known : goal.returns-then-is_close-clause-known
returns-then-is_close-clause-known c =
    let k = c.requires.known in
    record {
      within = let within = k.was.within in omega (arith, shorter _ _ _ _ k);
      close = rw k.is (known-remove_past c.args.low c.args.self.pages c.args.self.count c.args.self.until c.args.at k.old k.was.close (omega arith) (omega arith) (rw k.is at (OnTrue_at c.if-is_close.true c.is_close.ensures.close)));
    }

pub returns-then-at-self-3-clause-known : goal.returns-then-at-self-3-clause-known
returns-then-at-self-3-clause-known c =
    let k = c.requires.known in
    let order = c.args.self.order in
    record {
      within = let within = k.was.within in omega (arith, shorter _ _ _ _ k);
      close = rw k.is (known-remove_front c.args.low c.args.self.pages c.args.self.count c.args.self.until c.args.at k.old k.was.close (omega arith) order);
    }

pub returns-clause-known : goal.returns-clause-known
returns-clause-known c =
    let k = c.requires.known in
    record {
      within = let within = k.was.within in omega (arith, shorter _ _ _ _ k);
      close = rw k.is (known-remove_cut c.args.low c.args.self.pages c.args.self.count c.args.self.until c.args.at k.old k.was.close c.args.at (omega arith) (omega arith));
    }
