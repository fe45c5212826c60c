-- A write that fails in one part loses the parts after it.
use Rattle.std.proofs.Common.{sym, ◌∙◌}
use Rattle.run_devices.proofs.GatheredLemmas.{Tells-more, Tells-front, Tells-none, told_err, told_more}
use Rattle.view_diagnostics.proofs.ShownLemmas.{no_place, some_place}
use Rattle.view_diagnostics.proofs.front.put_place.Goals as goal

pub returns-then-is_empty-clause-output : goal.returns-then-is_empty-clause-output
returns-then-is_empty-clause-output g c = rw (no_place c.args.file.now c.args.place (sym c.is_empty.ensures ∙ c.if-is_empty.true)) (Tells-none _ _)

pub returns-in_err-put_text-clause-output : goal.returns-in_err-put_text-clause-output
returns-in_err-put_text-clause-output g c =
    rw (some_place c.args.file.now c.args.place (sym c.is_empty.ensures ∙ c.if-is_empty.false))
    (told_err _ _ _ c.from_residual.ensures.1 (_, Tells-front _ (Tells-front _ (Tells-front _ (c.in_err-put_text.ensures.output.1)))))

pub returns-in_err-put_after_colon-clause-output : goal.returns-in_err-put_after_colon-clause-output
returns-in_err-put_after_colon-clause-output g c =
    rw (some_place c.args.file.now c.args.place (sym c.is_empty.ensures ∙ c.if-is_empty.false), ← c.line.ensures)
    (told_err _ _ _ c.from_residual-in_err-put_after_colon.ensures.1
    (_, Tells-front _ (Tells-front _ (Tells-more c.in_ok-put_text.ensures.output (c.in_err-put_after_colon.ensures.output.1)))))

pub returns-in_err-put_after_colon-2-clause-output : goal.returns-in_err-put_after_colon-2-clause-output
returns-in_err-put_after_colon-2-clause-output g c =
    rw (some_place c.args.file.now c.args.place (sym c.is_empty.ensures ∙ c.if-is_empty.false), ← c.line.ensures, ← c.column.ensures)
    (told_err _ _ _ c.from_residual-in_err-put_after_colon-2.ensures.1
    (_, Tells-front _ (Tells-more (Tells-more c.in_ok-put_text.ensures.output c.in_ok-put_after_colon.ensures.output) (c.in_err-put_after_colon-2.ensures.output.1))))

pub returns-clause-output : goal.returns-clause-output
returns-clause-output g c =
    rw (some_place c.args.file.now c.args.place (sym c.is_empty.ensures ∙ c.if-is_empty.false), ← c.line.ensures, ← c.column.ensures)
    (told_more _ _ _ _ (Tells-more (Tells-more c.in_ok-put_text.ensures.output c.in_ok-put_after_colon.ensures.output) c.in_ok-put_after_colon-2.ensures.output) c.put.ensures.told)
