-- A write that fails in one part loses the parts after it; and the text is the line's.
use Rattle.std.proofs.Common.{◌∷◌, ◌++◌, [], codes, map, subst}
use Rattle.std.specs.Prelude.{decimal}
use Rattle.std.specs.Option.{option_map_or}
use Rattle.own_model.specs.Reply.{printed}
use Rattle.run_devices.specs.RunOutput.{OutputsUnless}
use Rattle.run_devices.proofs.GatheredLemmas.{Tells-more, Tells-front, told_err, told_more}
use Rattle.run_scenario.specs.Texts.{in_brackets}
use Rattle.view_runs.proofs.alone_run.put_heard.Goals as goal

pub returns-in_err-put_line-clause-told : goal.returns-in_err-put_line-clause-told
returns-in_err-put_line-clause-told g c =
    told_err _ _ _ c.from_residual.ensures.1
    (_, Tells-front _ (Tells-front _ (c.in_err-put_line.ensures.told.1)))

pub returns-in_err-put_text_after-clause-told : goal.returns-in_err-put_text_after-clause-told
returns-in_err-put_text_after-clause-told g c =
    subst (λ text. OutputsUnless c.from_residual-in_err-put_text_after.result (g.K.Sink.contents c.args.writer.now) c.args.gathered.now (g.K.Sink.contents c.put_text_after.new.sink) c.put_text_after.new.gathered
    (decimal c.args.heard.now.number ++ codes ": " ++ map printed c.args.heard.now.line.now ++ option_map_or in_brackets text [] ++ 10 ∷ []))
    c.shown_in.ensures
    (told_err _ _ _ c.from_residual-in_err-put_text_after.ensures.1
    (_, Tells-front _ (Tells-more c.in_ok-put_line.ensures.told (c.in_err-put_text_after.ensures.told.1))))

pub returns-clause-told : goal.returns-clause-told
returns-clause-told g c =
    subst (λ text. OutputsUnless c.put.result (g.K.Sink.contents c.args.writer.now) c.args.gathered.now (g.K.Sink.contents c.put.new.sink) c.put.new.self
    (decimal c.args.heard.now.number ++ codes ": " ++ map printed c.args.heard.now.line.now ++ option_map_or in_brackets text [] ++ 10 ∷ []))
    c.shown_in.ensures
    (told_more _ _ _ _ (Tells-more c.in_ok-put_line.ensures.told c.in_ok-put_text_after.ensures.told) c.put.ensures.told)
