-- The names are those that were made of the arguments.
use Rattle.std.proofs.Common.{◌≡◌}
use Rattle.line_names.specs.NameTable.{NameTable, nothing}
use Rattle.cli_base.specs.Given.{given_by_all}
use Rattle.cli_base.proofs.MadeLemmas.{on_made}
use Rattle.cli_base.proofs.settings.names_given.Goals as goal

pub returns-clause-known : goal.returns-clause-known
returns-clause-known c =
    on_made (λ (known : NameTable). known ≡ given_by_all nothing c.args.arguments.now) c.made_or_status.result c.known_by.result c.made_or_status.ensures.ok c.known_by.ensures
