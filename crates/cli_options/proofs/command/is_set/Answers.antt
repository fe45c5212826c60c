-- Whether a flag was used, by the row of its id.
use Rattle.std.proofs.Common.{◌∙◌, ap}
use Rattle.clap.specs.Words.{found_of}
use Rattle.clap.proofs.WalkLemmas.{one_text-rows}
use Rattle.cli_options.specs.Line.{is_true}
use Rattle.cli_options.proofs.LineLemmas.{flag_read}
use Rattle.cli_options.proofs.command.is_set.Goals as goal

pub returns : goal.returns
returns c =
    c.unwrap_or.ensures ∙ flag_read _ _ _ c.get_one.ensures.none c.get_one.ensures.value
    ∙ ap is_true (one_text-rows (found_of c.args.found.now) c.args.id.now)
