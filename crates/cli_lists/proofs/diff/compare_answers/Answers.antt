-- The results are those of both runs.
use Rattle.line_rounds.specs.Views.{whole_view}
use Rattle.cli_lists.proofs.ChangeLemmas.{with_results}
use Rattle.cli_lists.proofs.diff.compare_answers.Goals as goal

pub returns-clause-ended : goal.returns-clause-ended
returns-clause-ended c =
    let runs = c.args.runs in
    with_results c.args.settings runs.was.file.list.now (whole_view runs.was.lines.now) runs.now.file.list.now (whole_view runs.now.lines.now)
    runs.breaches.now c.args.olds.now c.args.news.now c.in_ok-before.before.items c.in_ok-after.after.items c.as_slice.result.now c.as_slice-2.result.now
    c.compare_results.result c.as_slice.ensures.value c.as_slice-2.ensures.value c.in_ok-before.ensures.results c.in_ok-after.ensures.results
    c.compare_results.ensures.ended
