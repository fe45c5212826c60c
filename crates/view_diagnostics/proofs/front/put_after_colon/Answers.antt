-- A colon, and then the number.
use Rattle.run_devices.proofs.GatheredLemmas.{Tells-front, Tells-none, told_err, told_more}
use Rattle.view_diagnostics.proofs.ShownLemmas.{no_number, some_number}
use Rattle.view_diagnostics.proofs.front.put_after_colon.Goals as goal

pub returns-in_err-put-in-Some-clause-output : goal.returns-in_err-put-in-Some-clause-output
returns-in_err-put-in-Some-clause-output g c =
    rw (c.in-Some.is, some_number) (told_err _ _ _ c.from_residual.ensures.1 (_, Tells-front _ (c.in_err-put-in-Some.ensures.told.1)))

pub returns-in_ok-put-in-Some-clause-output : goal.returns-in_ok-put-in-Some-clause-output
returns-in_ok-put-in-Some-clause-output g c = rw (c.in-Some.is, some_number) (told_more _ _ _ _ c.in_ok-put-in-Some.ensures.told c.put_number.ensures.output)

pub returns-in-None-clause-output : goal.returns-in-None-clause-output
returns-in-None-clause-output g c = rw (c.in-None.is, no_number) (Tells-none _ _)
