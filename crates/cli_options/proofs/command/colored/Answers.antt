-- A colour, by the row of its word.
use Rattle.std.proofs.Common.{◌∙◌, List, ℕ, Option, ap, codes, subst, unwrap_or}
use Rattle.clap.specs.Words.{found_of}
use Rattle.clap.proofs.WalkLemmas.{first_value-rows}
use Rattle.cli_options.specs.Line.{IsColor}
use Rattle.cli_options.proofs.LineLemmas.{value_or}
use Rattle.cli_options.proofs.command.colored.Goals as goal

pub returns : goal.returns
returns c =
    let word = value_or c.get_str.result _ c.unwrap_or.result c.unwrap_or.ensures
    ∙ ap (λ (o : Option (List ℕ)). unwrap_or o (codes "auto"))
    (c.get_str.ensures ∙ first_value-rows (found_of c.args.found.now) (codes "color")) in
    subst (λ told. IsColor c.color_named.result told) word c.color_named.ensures
