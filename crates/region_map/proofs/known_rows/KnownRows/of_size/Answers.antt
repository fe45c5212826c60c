-- What is small is so among larger gaps.
use Rattle.region_map.proofs.KnownLemmas.{close-larger}
use Rattle.region_map.proofs.known_rows.KnownRows.of_size.Goals as goal

pub returns-clause-known : goal.returns-clause-known
returns-clause-known c = λ low rows is. record { within = is.within; close = λ at below other. close-larger low _ _ at rows c.requires.less (is.close at below other) }
