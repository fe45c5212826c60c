-- The line is the first of the bytes ahead.
use Rattle.std.proofs.Common.{List, ℕ, ap, subst, take}
use Rattle.run_lines.specs.LineRuns.{HandlesLine}
use Rattle.run_lines.proofs.line_run.play_ahead.Goals as goal

pub returns-clause-played : goal.returns-clause-played
returns-clause-played g c = λ first start earlier led.
    subst (λ (line : List ℕ). HandlesLine (g.P.LineHandler.told first start) (g.P.LineHandler.leads first start c.play-played.new.self c.play-played.new.core) (g.P.LineHandler.stops first start c.play-played.new.self c.play-played.new.core) earlier line c.play-played.result
    (g.K.Sink.contents c.args.writer.now) c.args.buffers.now.gathered (g.K.Sink.contents c.play-played.new.writer) c.play-played.new.gathered)
    (ap (take c.args.count) c.ahead.ensures) (c.play-played.ensures.played first start earlier led)
