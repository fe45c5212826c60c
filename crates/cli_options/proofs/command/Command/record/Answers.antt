-- What is read of a recording, by its rows.
use Rattle.std.proofs.Common.{◌∙◌, codes, refl}
use Rattle.clap.specs.Words.{found_of}
use Rattle.clap.proofs.WalkLemmas.{first_value-rows}
use Rattle.cli_options.proofs.command.Command.record.Goals as goal

pub returns : goal.returns
returns c = (
  refl,
  c.get_str.ensures ∙ first_value-rows (found_of c.args.found.now) (codes "machine"),
  c.is_set.ensures,
  c.is_set-2.ensures,
  c.is_set-3.ensures,
  c.path.ensures,
)
