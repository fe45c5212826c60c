-- The calls are those of the run to its end.
use Rattle.std.proofs.Common.{Global, ◌≡◌, ◌∙◌, refl}
use Rattle.std.proofs.lemmas.Result.{IfOk-weaker}
use Rattle.std.specs.Prelude.{None, Vec}
use Rattle.line_rounds.specs.Views.{whole_view}
use Rattle.run_exchanges.specs.Exchange.{Exchange}
use Rattle.run_lines.specs.Machine.{world_of}
use Rattle.run_scenario.specs.Writes.{steps_on}
use Rattle.cli_lists.specs.ComparedRuns.{answers_on}
use Rattle.cli_lists.proofs.ChangeLemmas.{answered}
use Rattle.cli_lists.proofs.diff_runs.answers_on.Goals as goal

pub returns-in-Ok-clause-answers : goal.returns-in-Ok-clause-answers
returns-in-Ok-clause-answers g c =
    let list = c.args.run.file.list.now in
    let found = c.in-Ok.answered in
    IfOk-weaker c.all_answered.result
    (λ (v : Vec Exchange Global). (found.ending.fault ≡ None) × (v.items ≡ found.exchanges.items))
    (λ (v : Vec Exchange Global). v.items ≡ answers_on c.args.settings list (whole_view c.args.run.lines.now))
    (λ v ended.
    ended.1
    ∙ (rw (c.in_ok-start.ensures.start, c.bytes.ensures) at
    (answered (steps_on None c.in_ok-start.start list) (world_of list) found.ending found.exchanges.items _ _ _
    c.bytes.result.now c.watched_reader-reader.ensures.bytes ended.0
    (c.in-Ok.ensures.answered (rw (c.watched_reader-reader.ensures.fresh, c.plain_writer-nowhere.ensures, c.plain_writer-complaints.ensures) refl)))))
    c.all_answered.ensures.ended
