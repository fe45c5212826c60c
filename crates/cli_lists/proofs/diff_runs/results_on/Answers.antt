-- What came of the lines, by the calls.
use Rattle.std.proofs.Common.{Global, ◌≡◌, List, map}
use Rattle.std.proofs.lemmas.Result.{IfOk-at_ok}
use Rattle.std.specs.Prelude.{Vec, ℕ}
use Rattle.std.specs.Borrow.{Bor}
use Rattle.line_rounds.specs.Views.{whole_view}
use Rattle.list_diff.specs.LineResults.{bytes_of, call_in}
use Rattle.list_diff.specs.declared.line_outcomes.LineResult.{LineResult}
use Rattle.list_reach.specs.Paths.{pieces}
use Rattle.cli_lists.specs.ComparedRuns.{results_by}
use Rattle.cli_base.proofs.MadeLemmas.{on_made}
use Rattle.cli_lists.proofs.diff_runs.results_on.Goals as goal

pub returns-clause-results : goal.returns-clause-results
returns-clause-results c =
    let found = IfOk-at_ok (λ (v : Vec (Bor (List ℕ)) Global). bytes_of v.items ≡ pieces 10 c.bytes.result.now) c.in_ok-lines.ensures.ok c.pieces.ensures in
    let came = results_by c.args.settings (whole_view c.args.run.lines.now) c.args.exchanges.now in
    on_made (λ (v : Vec LineResult Global). map call_in v.items ≡ came) c.made_or_status-2.result c.line_results-results.result
    c.made_or_status-2.ensures.ok
    (rw (c.in_ok-start.ensures.start, c.as_slice.ensures.value, found, c.bytes.ensures) at c.line_results-results.ensures)
