-- An argument that counts for its command alone.
use Rattle.cli_options.proofs.LineLemmas.{local_added}
use Rattle.cli_options.proofs.commands.with_argument.Goals as goal

pub returns-clause-local : goal.returns-clause-local
returns-clause-local c = local_added _ _ _ c.in_ok-command.ensures c.argument-argument.ensures.local
