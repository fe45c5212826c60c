-- The line is passed, what it binds is bound, and then rounds begin or end.
use Rattle.run_scenario.proofs.StepLemmas.{stepped}
use Rattle.run_scenario.proofs.step_position.move_past.Goals as goal

pub returns : goal.returns
returns c = λ only line old new takes. stepped c.arrive.result only c.args.position.now _ _ _ line old new c.args.step.now takes c.pass.ensures.passed c.in_ok-bind.ensures c.arrive.ensures.arrived
