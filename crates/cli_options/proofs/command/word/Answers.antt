-- A word, by the row of its id.
use Rattle.std.proofs.Common.{◌∙◌, List, [], ℕ, Option, ap, unwrap_or}
use Rattle.clap.specs.Words.{found_of}
use Rattle.clap.proofs.WalkLemmas.{first_value-rows}
use Rattle.cli_options.proofs.LineLemmas.{value_or}
use Rattle.cli_options.proofs.command.word.Goals as goal

pub returns : goal.returns
returns c =
    value_or c.get_str.result _ c.unwrap_or.result c.unwrap_or.ensures
    ∙ ap (λ (o : Option (List ℕ)). unwrap_or o [])
    (c.get_str.ensures ∙ first_value-rows (found_of c.args.found.now) c.args.id.now)
