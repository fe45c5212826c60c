-- On the machine of the list.
use Rattle.std.proofs.Common.{ap, [], None}
use Rattle.view_runs.proofs.AnswerLemmas.{answered_on}
use Rattle.run_scenario.proofs.WriteLemmas.{ends_for_cause, played_on, unplayed_with}
use Rattle.view_runs.proofs.answer_list.answers.Goals as goal

pub returns-clause-played : goal.returns-clause-played
returns-clause-played g c = λ works.
    played_on c.args.play.list.now None c.args.play.start (λ _ _. []) (λ _ _. []) c.answers_on.result.ending _ _ _ _ _ _ _
    c.in_ok-core.ensures.started c.new-state.ensures.stands c.new-state.ensures.expects c.new-state.ensures.subject (c.answers_on.ensures.played works)

pub returns-clause-answered : goal.returns-clause-answered
returns-clause-answered g c = λ works.
    answered_on c.args.play.list.now c.args.play.start c.answers_on.result.ending c.in_ok-core.ensures.started c.new-state.ensures.stands (c.answers_on.ensures.answered works)

pub returns-clause-ok : goal.returns-clause-ok
returns-clause-ok g c =
    ends_for_cause _ _ _ c.answers_on.ensures.played (unplayed_with c.answers_on.result.ending _ _ _ _ _ (ap g.S.Source.has_failed) c.answers_on.ensures.before) c.answers_on.ensures.writing
