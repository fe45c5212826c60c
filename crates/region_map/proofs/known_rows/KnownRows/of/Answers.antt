-- What is known of fewer pages is known of more.
use Rattle.region_map.proofs.known_rows.KnownRows.of.Goals as goal

pub returns-then-pages-several-clause-known : goal.returns-then-pages-several-clause-known
returns-then-pages-several-clause-known c = λ low rows single several. c.of_size.ensures.known low rows single

pub returns-else-pages-several-clause-known : goal.returns-else-pages-several-clause-known
returns-else-pages-several-clause-known c = λ low rows single several. c.of_size-else-pages-several.ensures.known low rows several
