-- The answered calls are those of both runs.
use Rattle.cli_lists.proofs.diff.compare_runs.Goals as goal

pub returns-clause-ended : goal.returns-clause-ended
returns-clause-ended g c =
    rw (c.as_slice.ensures.value, c.in_ok-olds.ensures.answers, c.as_slice-2.ensures.value, c.in_ok-news.ensures.answers) at
    c.compare_answers.ensures.ended
