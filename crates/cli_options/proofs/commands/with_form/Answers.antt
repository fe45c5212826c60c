-- A command of a table is added.
use Rattle.cli_options.proofs.LineLemmas.{added}
use Rattle.cli_options.proofs.commands.with_form.Goals as goal

pub returns : goal.returns
returns c = added _ _ _ c.args.form.now c.in_ok-words.ensures c.in_ok-command.ensures
