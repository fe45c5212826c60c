-- A line is played where its lines before have led.
use Rattle.std.specs.Option.{option_copied}
use Rattle.own_model.specs.Listed.{start_list_of}
use Rattle.own_model.specs.StartList.{entries_of}
use Rattle.run_scenario.specs.LineSteps.{calls_in, resolved_at}
use Rattle.run_scenario.proofs.PlayLemmas.{runner_line, counted_fails, listed_on, ready_next, remains_on}
use Rattle.run_scenario.proofs.scenario_runner.ScenarioRunnerLineHandler.play.Goals as goal

pub returns-clause-played : goal.returns-clause-played
returns-clause-played g c = λ first start earlier led.
    let counts = rw c.run_line-judged.ensures.uncounted at c.count.ensures.counts in
    rw c.count.ensures.result (runner_line (λ run. option_copied run.only) (λ run. run.list.now) (λ run. g.W.CallObserver.sees c.args.self.now.observer.now run.list.now) (λ run. g.W.CallObserver.sees c.run_line-judged.new.self.observer.now run.list.now)
    start earlier c.args.line.now g.W.CallObserver.takes c.run_line-judged.result c.args.self.now.complained c.count.new.complained _ _ _ counts (remains_on led.0 c.run_line-judged.ensures.remains) led.0.run_is led.0.subject_is led.0.tells_is led.1 c.run_line-judged.ensures.plays c.run_line-judged.ensures.reports)

pub returns-clause-failing : goal.returns-clause-failing
returns-clause-failing g c = rw c.count.ensures.result (counted_fails c.run_line-judged.result _ _ c.run_line-judged.ensures.plays.failing)

pub returns-clause-ready : goal.returns-clause-ready
returns-clause-ready g c = λ more ready.
    let now = c.args.self.now in
    let only = option_copied now.run.now.only in
    let resolved = resolved_at only now.state.now.position c.args.line.now in
    rw c.count.ensures.result (ready_next c.run_line-judged.result
    (listed_on (λ run. entries_of (start_list_of run.list.now)) only (calls_in resolved) c.args.core.now c.run_line-judged.ensures.plays.hears.world ready
    c.run_line-judged.ensures.remains.run_is))
