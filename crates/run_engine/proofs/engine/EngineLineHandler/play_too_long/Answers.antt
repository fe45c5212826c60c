-- A line that is too long is no call.
use Rattle.std.proofs.Common.{ap, inl}
use Rattle.std.specs.Option.{option_copied}
use Rattle.run_lines.proofs.AnsweringLemmas.{left_no_call}
use Rattle.run_engine.proofs.EngineLemmas.{engine_plays}
use Rattle.run_engine.proofs.engine.EngineLineHandler.play_too_long.Goals as goal

pub returns-clause-played : goal.returns-clause-played
returns-clause-played g c = λ first start earlier line long led.
    engine_plays (option_copied c.args.self.now.run.only) (option_copied first.run.only) start c.args._core.now c.args._core.now earlier line c.answer_no_call.result c.tell.result _ _ _ _ _ led.0 (ap (λ run. option_copied run.only) led.0) led.1
    (c.answer_no_call.ensures c.args._core.now line (inl long)) (left_no_call (option_copied c.args.self.now.run.only) c.args._core.now line (inl long)) c.tell.ensures.told c.tell.ensures.failing
