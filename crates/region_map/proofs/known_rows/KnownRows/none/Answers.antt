-- No row is known.
use Rattle.std.proofs.Common.{arith}
use Rattle.region_map.proofs.known_rows.KnownRows.none.Goals as goal

pub returns-clause-known : goal.returns-clause-known
returns-clause-known c = λ low rows. record { within = omega arith; close = λ at below other. absurd (omega arith) }
