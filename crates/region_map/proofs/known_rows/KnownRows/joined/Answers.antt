-- The row that was not known is close.
use Rattle.std.proofs.lemmas.Bool.{OnTrue_at}
use Rattle.region_map.proofs.KnownLemmas.{known-joined}
use Rattle.region_map.proofs.known_rows.KnownRows.joined.Goals as goal

pub returns-clause-known : goal.returns-clause-known
returns-clause-known c = record {
  within = c.requires.known.within;
  close = known-joined c.args.low c.args.self.pages c.args.self.count c.args.self.until 0 c.args.rows.now.items c.requires.known.close (OnTrue_at c.if-not-is_close.false c.is_close.ensures.close);
}
