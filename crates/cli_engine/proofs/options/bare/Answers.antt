-- The command as it is made, word by word.
use Rattle.std.proofs.Common.{◌∙◌, ap}
use Rattle.clap.specs.Simple.{app_of_fields}
use Rattle.cli_engine.proofs.options.bare.Goals as goal

pub returns : goal.returns
returns c = ap app_of_fields c.after_help.ensures ∙ ap app_of_fields c.about.ensures ∙ c.new.ensures.app
