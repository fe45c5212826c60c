-- The result of one test more, and of all tests.
use Rattle.cli_tests.proofs.ResultLemmas.{results_all, results_more}
use Rattle.cli_tests.proofs.test.run_each.Goals as goal

pub loop-place-preserved : goal.loop-place-preserved
loop-place-preserved g c =
    results_more (g.H.Host.text_at c.args.host.now) c.args.conditions.asked.now c.args.conditions.settings c.args.tests.now c.loop-place.place c.index-tests-place.result c.loop-place.trials.items c.push.new.self.items c.in_ok-trial.trial
    c.loop-place-test.true c.index-tests-place.is c.loop-place.invariant c.in_ok-trial.ensures c.in_ok-push.ensures.items

pub returns : goal.returns
returns g c = results_all (g.H.Host.text_at c.args.host.now) c.args.conditions.asked.now c.args.conditions.settings c.args.tests.now c.loop-place.place c.loop-place.trials.items c.loop-place-test.false c.loop-place.invariant
