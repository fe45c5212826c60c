-- A comma, and then the text as it is or in quotes.
use Rattle.std.proofs.Common.{subst, sym, ◌∙◌}
use Rattle.run_devices.specs.RunOutput.{OutputsUnless}
use Rattle.run_devices.proofs.GatheredLemmas.{Tells-front, told_err, told_more}
use Rattle.run_scenario.proofs.CellLemmas.{quoted_cell, unquoted_cell}
use Rattle.run_scenario.proofs.csv_row.put_cell.Goals as goal

pub returns-in_err-put-clause-told : goal.returns-in_err-put-clause-told
returns-in_err-put-clause-told g c = told_err _ _ _ c.from_residual.ensures.1 (_, Tells-front _ (c.in_err-put.ensures.told.1))

pub returns-then-needs_quotes-clause-told : goal.returns-then-needs_quotes-clause-told
returns-then-needs_quotes-clause-told g c =
    subst (λ text. OutputsUnless c.put_quoted.result (g.K.Sink.contents c.args.sink.now) c.args.gathered.now (g.K.Sink.contents c.put_quoted.new.sink) c.put_quoted.new.gathered text)
    (quoted_cell c.args.text.now (sym c.needs_quotes.ensures ∙ c.if-needs_quotes.true))
    (told_more _ _ _ _ c.in_ok-put.ensures.told c.put_quoted.ensures.told)

pub returns-else-needs_quotes-clause-told : goal.returns-else-needs_quotes-clause-told
returns-else-needs_quotes-clause-told g c =
    subst (λ text. OutputsUnless c.put-else-needs_quotes.result (g.K.Sink.contents c.args.sink.now) c.args.gathered.now (g.K.Sink.contents c.put-else-needs_quotes.new.sink) c.put-else-needs_quotes.new.self text)
    (unquoted_cell c.args.text.now (sym c.needs_quotes.ensures ∙ c.if-needs_quotes.false))
    (told_more _ _ _ _ c.in_ok-put.ensures.told c.put-else-needs_quotes.ensures.told)
