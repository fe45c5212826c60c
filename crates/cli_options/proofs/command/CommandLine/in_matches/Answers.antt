-- The name and the rows of what was found.
use Rattle.std.proofs.Common.{◌≡◌, ◌∙◌, IfOk, Some, subst, sym}
use Rattle.clap.specs.Words.{found_of, rows_of, subcommand_rows_of}
use Rattle.clap.specs.declared.parser.matches.ArgMatches.TheViews.{out-ArgMatches}
use Rattle.cli_options.specs.Line.{AsksAs}
use Rattle.cli_options.proofs.LineLemmas.{name_in_rows, pair_is}
use Rattle.cli_options.proofs.command.CommandLine.in_matches.Goals as goal

pub returns-in-Some : goal.returns-in-Some
returns-in-Some c =
    let matches = c.args.matches.now in
    let name = c.in-Some.name.now in
    let rows = rows_of (found_of c.in-Some.found.now) in
    let told : subcommand_rows_of matches ≡ Some (name, rows) = pair_is (subcommand_rows_of matches) name rows
    (c.in-Some.ensures.name ∙ name_in_rows (out-ArgMatches matches).subcommand) c.in-Some.ensures.rows in
    subst (λ asked. IfOk c.asked.result (λ command. AsksAs command asked)) (sym told) c.asked.ensures
