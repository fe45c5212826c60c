-- A write that fails in one part loses the parts after it.
use Rattle.run_devices.proofs.GatheredLemmas.{Tells-more, Tells-front, told_err, told_more}
use Rattle.view_diagnostics.proofs.front.put_line_front.Goals as goal

pub returns-in_err-put_place-clause-output : goal.returns-in_err-put_place-clause-output
returns-in_err-put_place-clause-output g c = told_err _ _ _ c.from_residual.ensures.1 (_, Tells-front _ (Tells-front _ (c.in_err-put_place.ensures.output.1)))

pub returns-in_err-put-clause-output : goal.returns-in_err-put-clause-output
returns-in_err-put-clause-output g c =
    rw (← c.name.ensures, ← c.as_bytes.ensures.value) (told_err _ _ _ c.from_residual-in_err-put.ensures.1 (_, Tells-front _ (Tells-more c.in_ok-put_place.ensures.output (c.in_err-put.ensures.told.1))))

pub returns-clause-output : goal.returns-clause-output
returns-clause-output g c = rw (← c.name.ensures, ← c.as_bytes.ensures.value) (told_more _ _ _ _ (Tells-more c.in_ok-put_place.ensures.output c.in_ok-put.ensures.told) c.put-2.ensures.told)
