-- On the machine of the list.
use Rattle.std.proofs.Common.{ap, ◌++◌, [], None}
use Rattle.run_scenario.specs.RunCalls.{text_of_steps}
use Rattle.view_runs.specs.Tracing.{trace_call_text}
use Rattle.run_scenario.proofs.WriteLemmas.{ends_for_cause, played_on, unplayed_with}
use Rattle.view_runs.proofs.tracing.trace.Goals as goal

pub returns-clause-played : goal.returns-clause-played
returns-clause-played g c = λ works.
    played_on c.args.play.list.now None c.args.play.start (λ start steps. g.F.RowFormat.front ++ text_of_steps (trace_call_text g.F.RowFormat.row_text start) None [] steps) (λ _ _. []) c.trace_on.result _ _ _ _ _ _ _
    c.in_ok-core.ensures.started c.new-state.ensures.stands c.new-state.ensures.expects c.new-state.ensures.subject (c.trace_on.ensures.played works)

pub returns-clause-ok : goal.returns-clause-ok
returns-clause-ok g c =
    ends_for_cause _ _ _ c.trace_on.ensures.played (unplayed_with c.trace_on.result _ _ _ _ _ (ap g.S.Source.has_failed) c.trace_on.ensures.before) c.trace_on.ensures.writing
