-- What the matches of the command line tell, and where it isn't read.
use Rattle.std.proofs.Common.{◌∙◌, ap, map, subst, sym}
use Rattle.std.proofs.lemmas.Result.{err_from_is_err_and}
use Rattle.clap.specs.Words.{App, fault_of, is_simple, is_simple_and_free, kind_of, subcommand_of, takes}
use Rattle.cli_options.specs.Line.{AsksAs}
use Rattle.cli_options.proofs.LineLemmas.{fails_so}
use Rattle.cli_options.proofs.command.CommandLine.read.Goals as goal

pub returns-in_err-matches-clause-refusals : goal.returns-in_err-matches-clause-refusals
returns-in_err-matches-clause-refusals g c =
    let words = map g.S.AsStr.text c.args.words.now in
    let p = err_from_is_err_and c.from_residual-in_err-matches.result c.from_residual-in_err-matches.ensures.1 in
    let made = c.in_ok-commands.ensures in
    fails_so _ _ _ _ _ (ap (λ (app : App). fault_of app words) made)
    (c.in_err-matches.ensures.kinds (ap is_simple_and_free made)) p.1 p.2

pub returns-in_err-matches-clause-takes : goal.returns-in_err-matches-clause-takes
returns-in_err-matches-clause-takes g c =
    let words = map g.S.AsStr.text c.args.words.now in
    let p = err_from_is_err_and c.from_residual-in_err-matches.result c.from_residual-in_err-matches.ensures.1 in
    let made = ap (λ (app : App). takes app words) c.in_ok-commands.ensures in
    rw p.1 (λ taken. ap kind_of p.2 ∙ c.in_err-matches.ensures.passes (made ∙ taken))

pub returns-clause-request : goal.returns-clause-request
returns-clause-request g c =
    let words = map g.S.AsStr.text c.args.words.now in
    let made = c.in_ok-commands.ensures in
    let asked = (c.in_ok-matches.ensures.matches (ap is_simple made)).1 in
    subst (λ asked. AsksAs c.in_ok-in_matches.field-0 asked) (asked ∙ ap (λ (app : App). subcommand_of app words) made) c.in_ok-in_matches.ensures

pub returns-clause-refusals : goal.returns-clause-refusals
returns-clause-refusals g c =
    let words = map g.S.AsStr.text c.args.words.now in
    let made = c.in_ok-commands.ensures in
    sym (ap (λ (app : App). fault_of app words) made) ∙ c.in_ok-matches.ensures.kinds (ap is_simple_and_free made)
