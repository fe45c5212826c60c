-- What was observed, and nothing written.
use Rattle.std.proofs.Common.{rules, refl}
use Rattle.view_runs.proofs.AnswerLemmas.{answered_from, silent_played}
use Rattle.run_scenario.proofs.WriteLemmas.{reported_at}
use Rattle.view_runs.proofs.answer_list.answers_on.Goals as goal

pub returns-clause-played : goal.returns-clause-played
returns-clause-played g c = λ works.
    reported_at
    (silent_played c.play-ending.result (rw c.requires.all at (c.play-ending.ensures.plays works))) (search rules)

pub returns-clause-answered : goal.returns-clause-answered
returns-clause-answered g c = λ works. answered_from c.play-ending.result c.taken-exchanges.ensures.kept (rw c.requires.all at (c.play-ending.ensures.plays works))
