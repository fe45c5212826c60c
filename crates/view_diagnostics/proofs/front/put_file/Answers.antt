-- The path between its quotes.
use Rattle.std.proofs.Common.{sym, ◌∙◌}
use Rattle.run_devices.proofs.GatheredLemmas.{Tells-more, Tells-front, told_err, told_more}
use Rattle.std.specs.Prelude.{codes}
use Rattle.view_diagnostics.specs.Diagnostics.{shown}
use Rattle.view_diagnostics.specs.declared.diagnostics.DiagnosticForm.TheVariants.{Json}
use Rattle.view_diagnostics.proofs.ShownLemmas.{no_file, some_file}
use Rattle.view_diagnostics.proofs.front.put_file.Goals as goal

pub returns-then-is_empty-clause-output : goal.returns-then-is_empty-clause-output
returns-then-is_empty-clause-output g c = rw (no_file c.args.file.now (sym c.is_empty.ensures ∙ c.if-is_empty.true)) c.put.ensures.told

pub returns-in_err-put-clause-output : goal.returns-in_err-put-clause-output
returns-in_err-put-clause-output g c =
    rw (some_file c.args.file.now (sym c.is_empty.ensures ∙ c.if-is_empty.false))
    (told_err _ _ _ c.from_residual.ensures.1 (_, Tells-front (codes "\"") (Tells-front (shown Json c.args.file.now) (c.in_err-put.ensures.told.1))))

pub returns-in_err-put_text-clause-output : goal.returns-in_err-put_text-clause-output
returns-in_err-put_text-clause-output g c =
    rw (some_file c.args.file.now (sym c.is_empty.ensures ∙ c.if-is_empty.false))
    (told_err _ _ _ c.from_residual-in_err-put_text.ensures.1 (_, Tells-front _ (Tells-more c.in_ok-put.ensures.told (c.in_err-put_text.ensures.output.1))))

pub returns-clause-output : goal.returns-clause-output
returns-clause-output g c =
    rw (some_file c.args.file.now (sym c.is_empty.ensures ∙ c.if-is_empty.false)) (told_more _ _ _ _ (Tells-more c.in_ok-put.ensures.told c.in_ok-put_text.ensures.output) c.put-3.ensures.told)
