-- What the matches of the command line tell, and where it isn't read.
use Rattle.std.proofs.Common.{◌∙◌, ap, codes, map, sym}
use Rattle.std.proofs.lemmas.Result.{err_from_is_err_and}
use Rattle.clap.specs.Words.{App, fault_of, first_of, found_of, is_simple, is_simple_and_free, kind_of, matches_of, takes}
use Rattle.clap.proofs.WalkLemmas.{first_value-rows}
use Rattle.cli_engine.specs.Options.{is_set}
use Rattle.cli_engine.proofs.options.Options.read.Goals as goal

pub returns-in_err-matches-clause-takes : goal.returns-in_err-matches-clause-takes
returns-in_err-matches-clause-takes g c =
    let words = map g.S.AsStr.text c.args.words.now in
    let p = err_from_is_err_and c.from_residual-in_err-matches.result c.from_residual-in_err-matches.ensures.1 in
    let made = ap (λ (app : App). takes app words) c.in_ok-command.ensures in
    rw p.1 (λ taken. ap kind_of p.2 ∙ c.in_err-matches.ensures.passes (made ∙ taken))

pub returns-clause-accounts : goal.returns-clause-accounts
returns-clause-accounts g c =
    let words = map g.S.AsStr.text c.args.words.now in
    let made = c.in_ok-command.ensures in
    let rows = (c.in_ok-matches.ensures.matches (ap is_simple made)).0 in
    c.is_set-2.ensures ∙ ap (is_set (codes "accounts")) (rows ∙ ap (λ (app : App). matches_of app words) made)

pub returns-clause-only : goal.returns-clause-only
returns-clause-only g c =
    let words = map g.S.AsStr.text c.args.words.now in
    let made = c.in_ok-command.ensures in
    let rows = (c.in_ok-matches.ensures.matches (ap is_simple made)).0 in
    c.get_str.ensures ∙ first_value-rows (found_of c.in_ok-matches.matches) (codes "only")
    ∙ ap (first_of (codes "only")) (rows ∙ ap (λ (app : App). matches_of app words) made)

pub returns-clause-path : goal.returns-clause-path
returns-clause-path g c =
    let words = map g.S.AsStr.text c.args.words.now in
    let made = c.in_ok-command.ensures in
    let rows = (c.in_ok-matches.ensures.matches (ap is_simple made)).0 in
    c.get_str-2.ensures ∙ first_value-rows (found_of c.in_ok-matches.matches) (codes "config")
    ∙ ap (first_of (codes "config")) (rows ∙ ap (λ (app : App). matches_of app words) made)

pub returns-clause-refusals : goal.returns-clause-refusals
returns-clause-refusals g c =
    let words = map g.S.AsStr.text c.args.words.now in
    let made = c.in_ok-command.ensures in
    sym (ap (λ (app : App). fault_of app words) made) ∙ c.in_ok-matches.ensures.kinds (ap is_simple_and_free made)
