-- What is read of a scenario that is answered, by its rows.
use Rattle.std.proofs.Common.{◌∙◌, codes, refl}
use Rattle.clap.specs.Words.{found_of}
use Rattle.clap.proofs.WalkLemmas.{first_value-rows}
use Rattle.cli_options.proofs.command.Command.run.Goals as goal

pub returns : goal.returns
returns c = (
  refl,
  c.get_str.ensures ∙ first_value-rows (found_of c.args.found.now) (codes "machine"),
  c.get_str-2.ensures ∙ first_value-rows (found_of c.args.found.now) (codes "only"),
  c.is_set.ensures,
  c.is_set-2.ensures,
  c.colored.ensures,
  c.is_set-3.ensures,
  c.path.ensures,
)
