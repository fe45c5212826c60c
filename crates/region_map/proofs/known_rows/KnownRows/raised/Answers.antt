-- The rows that the walk passed are close, and the next one is not.
use Rattle.std.proofs.Common.{arith}
use Rattle.region_map.proofs.KnownLemmas.{count_within, walk-within, walk-known, walk-far}
use Rattle.region_map.proofs.known_rows.KnownRows.raised.Goals as goal

pub close_behind-requires-clause-there : goal.close_behind-requires-clause-there
close_behind-requires-clause-there c = count_within _ _ _ c.joined-known.ensures.known

pub returns-clause-known : goal.returns-clause-known
returns-clause-known c =
    let is = c.joined-known.ensures.known in
    let order = c.joined-known.result.order in
    let fits = walk-within c.args.low c.joined-known.result.pages c.joined-known.result.count c.close_behind.result c.args.rows.now.items (count_within _ _ _ c.joined-known.ensures.known) c.close_behind.ensures.count in
    let within = is.within in
    record {
      within = omega (arith, c.max.ensures);
      close = walk-known c.args.low c.joined-known.result.pages c.joined-known.result.count c.close_behind.result c.args.rows.now.items (count_within _ _ _ c.joined-known.ensures.known) c.close_behind.ensures.count c.joined-known.result.until c.max.result is.close order (λ i below past. omega (arith, c.max.ensures));
    }

pub returns-clause-gap : goal.returns-clause-gap
returns-clause-gap c =
    walk-far c.args.low c.joined-known.result.pages c.joined-known.result.count c.close_behind.result c.args.rows.now.items (count_within _ _ _ c.joined-known.ensures.known) c.close_behind.ensures.count
