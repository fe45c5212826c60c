-- The needs are those of both runs.
use Rattle.line_rounds.specs.Views.{whole_view}
use Rattle.cli_lists.proofs.ChangeLemmas.{with_needs}
use Rattle.cli_lists.proofs.diff.compare_needs.Goals as goal

pub returns-clause-ended : goal.returns-clause-ended
returns-clause-ended c =
    let runs = c.args.runs in
    with_needs c.args.settings runs.was.file.list.now (whole_view runs.was.lines.now) runs.now.file.list.now (whole_view runs.now.lines.now)
    runs.breaches.now c.in_ok-had.had.items c.in_ok-has.has.items c.args.replies.now c.lacks.result c.in_ok-lacks.lacks c.as_slice-3.result.now
    c.print_differences.result c.in_ok-had.ensures.needs c.in_ok-has.ensures.needs
    (rw (c.as_slice.ensures.value, c.as_slice-2.ensures.value) at c.lacks.ensures) c.in_ok-lacks.ensures.ok c.as_slice-3.ensures.value
    c.print_differences.ensures
