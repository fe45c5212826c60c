-- The line is answered, and its answer told.
use Rattle.std.proofs.Common.{ap}
use Rattle.std.specs.Option.{option_copied}
use Rattle.run_engine.proofs.EngineLemmas.{engine_plays}
use Rattle.run_engine.proofs.engine.EngineLineHandler.play.Goals as goal

pub returns-clause-played : goal.returns-clause-played
returns-clause-played g c = λ first start earlier led.
    engine_plays _ (option_copied first.run.only) start c.args.core.now _ earlier c.args.line.now c.answer_short-answer.result c.tell.result _ _ _ _ _ led.0 (ap (λ run. option_copied run.only) led.0) led.1
    c.answer_short-answer.ensures.answered c.answer_short-answer.ensures.world c.tell.ensures.told c.tell.ensures.failing
