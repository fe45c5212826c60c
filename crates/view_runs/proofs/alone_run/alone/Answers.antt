-- On the machine of the list; and what a name is told hangs on its own lines alone.
use Rattle.std.proofs.Common.{ap, [], length, None, Some}
use Rattle.view_runs.specs.Alone.{alone_sum, alone_call_text}
use Rattle.run_scenario.specs.RunCalls.{calls_answered, text_of_steps}
use Rattle.view_runs.proofs.AloneLemmas.{are_alike}
use Rattle.view_runs.proofs.ViewLemmas.{alone_counts_on}
use Rattle.run_scenario.proofs.WriteLemmas.{ends_for_cause, played_on, unplayed_with}
use Rattle.view_runs.proofs.alone_run.alone.Goals as goal

pub returns-clause-played : goal.returns-clause-played
returns-clause-played g c = λ works.
    played_on c.args.play.list.now None c.args.play.start (λ start steps. text_of_steps (alone_call_text c.args.name.now start) None [] steps) (λ _ steps. alone_sum c.args.name.now (length (calls_answered (Some c.args.name.now) steps))) c.run_alone.result.ending _ _ _ _ _ _ _
    c.in_ok-whole.ensures.started c.new-state.ensures.stands c.new-state.ensures.expects c.new-state.ensures.subject (rw (c.new-named.ensures.name, c.new-named.ensures.list) at (c.run_alone.ensures.played works))

pub returns-clause-summed : goal.returns-clause-summed
returns-clause-summed g c = λ works.
    played_on c.args.play.list.now None c.args.play.start (λ start steps. text_of_steps (alone_call_text c.args.name.now start) None [] steps) (λ _ _. alone_sum c.args.name.now c.run_alone.result.lines) c.run_alone.result.ending _ _ _ _ _ _ _
    c.in_ok-whole.ensures.started c.new-state.ensures.stands c.new-state.ensures.expects c.new-state.ensures.subject (rw (c.new-named.ensures.name, c.new-named.ensures.list) at (c.run_alone.ensures.summed works))

pub returns-clause-counts : goal.returns-clause-counts
returns-clause-counts g c = λ works.
    alone_counts_on c.args.name.now c.args.play.list.now c.args.play.start c.run_alone.result.ending.fault c.run_alone.result.ending.complaints c.run_alone.result.lines (g.S.Source.remaining c.args.reader.now)
    c.in_ok-whole.ensures.started c.new-state.ensures.stands c.new-state.ensures.expects (rw (c.new-named.ensures.name, c.new-named.ensures.list) at (c.run_alone.ensures.counts works))

pub returns-clause-alike : goal.returns-clause-alike
returns-clause-alike g c = are_alike c.args.name.now

pub returns-in_err-whole-clause-alike : goal.returns-in_err-whole-clause-alike
returns-in_err-whole-clause-alike g c = are_alike c.args.name.now

pub returns-in_err-buffers-clause-alike : goal.returns-in_err-buffers-clause-alike
returns-in_err-buffers-clause-alike g c = are_alike c.args.name.now

pub returns-in_err-alone-clause-alike : goal.returns-in_err-alone-clause-alike
returns-in_err-alone-clause-alike g c = are_alike c.args.name.now

pub returns-in_err-reply-clause-alike : goal.returns-in_err-reply-clause-alike
returns-in_err-reply-clause-alike g c = are_alike c.args.name.now

pub returns-clause-ok : goal.returns-clause-ok
returns-clause-ok g c =
    ends_for_cause _ _ _ c.run_alone.ensures.played (unplayed_with c.run_alone.result.ending _ _ _ _ _ (ap g.S.Source.has_failed) c.run_alone.ensures.before) c.run_alone.ensures.writing
