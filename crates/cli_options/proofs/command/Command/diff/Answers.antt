-- What is read of a difference, by its rows.
use Rattle.std.proofs.Common.{◌∙◌, codes, refl}
use Rattle.clap.specs.Words.{found_of}
use Rattle.clap.proofs.WalkLemmas.{first_value-rows}
use Rattle.cli_options.proofs.command.Command.diff.Goals as goal

pub returns : goal.returns
returns c = (
  refl,
  c.is_set.ensures,
  c.word.ensures,
  c.word-2.ensures,
  c.get_str.ensures ∙ first_value-rows (found_of c.args.found.now) (codes "scenario"),
  c.get_str-2.ensures ∙ first_value-rows (found_of c.args.found.now) (codes "scenario-after"),
  c.get_str-3.ensures ∙ first_value-rows (found_of c.args.found.now) (codes "policy"),
)
