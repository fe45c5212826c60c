-- A comma, and then the text as it is or in quotes.
use Rattle.std.proofs.Common.{subst, sym, ◌∙◌}
use Rattle.own_model.specs.Text.{hex_bytes}
use Rattle.run_devices.specs.RunOutput.{OutputsUnless}
use Rattle.run_devices.proofs.GatheredLemmas.{Tells-front, told_err, told_more}
use Rattle.run_scenario.specs.Texts.{characters_text}
use Rattle.run_scenario.proofs.CellLemmas.{quoted_cell, unquoted_cell}
use Rattle.run_scenario.proofs.printable_hex.PrintableHex.put_cell.Goals as goal

pub returns-in_err-put-clause-told : goal.returns-in_err-put-clause-told
returns-in_err-put-clause-told g c = told_err _ _ _ c.from_residual.ensures.1 (_, Tells-front _ (c.in_err-put.ensures.told.1))

pub returns-then-need_quotes-clause-told : goal.returns-then-need_quotes-clause-told
returns-then-need_quotes-clause-told g c =
    subst (λ text. OutputsUnless c.put_quoted.result (g.K.Sink.contents c.args.sink.now) c.args.gathered.now (g.K.Sink.contents c.put_quoted.new.sink) c.put_quoted.new.gathered text)
    (quoted_cell (characters_text (hex_bytes c.args.self.hex.now)) (sym c.need_quotes.ensures ∙ c.if-need_quotes.true))
    (told_more _ _ _ _ c.in_ok-put.ensures.told c.put_quoted.ensures.told)

pub returns-else-need_quotes-clause-told : goal.returns-else-need_quotes-clause-told
returns-else-need_quotes-clause-told g c =
    subst (λ text. OutputsUnless c.put_signs.result (g.K.Sink.contents c.args.sink.now) c.args.gathered.now (g.K.Sink.contents c.put_signs.new.sink) c.put_signs.new.gathered text)
    (unquoted_cell (characters_text (hex_bytes c.args.self.hex.now)) (sym c.need_quotes.ensures ∙ c.if-need_quotes.false))
    (told_more _ _ _ _ c.in_ok-put.ensures.told c.put_signs.ensures.told)
