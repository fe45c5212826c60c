-- What the peaks see, and the needs.
use Rattle.std.proofs.Common.{refl}
use Rattle.run_devices.proofs.GatheredLemmas.{Tells-none, told_err}
use Rattle.view_accounts.proofs.AccountingLemmas.{sees_both}
use Rattle.run_scenario.proofs.FailLemmas.{roomless}
use Rattle.view_accounts.proofs.accounting.AccountingCallObserver.tell.Goals as goal

pub returns-in_err-hear-clause-told : goal.returns-in_err-hear-clause-told
returns-in_err-hear-clause-told g c = λ start earlier sees told. told_err _ _ _ c.from_residual.ensures.1 (_, Tells-none _ _)

pub returns-in_err-hear-clause-failing : goal.returns-in_err-hear-clause-failing
returns-in_err-hear-clause-failing g c = roomless _ _ _ c.from_residual.ensures.1 c.requires.writes refl

pub returns-clause-told : goal.returns-clause-told
returns-clause-told g c = λ start earlier sees told. c.tell.ensures.told start earlier sees.peaks told

pub returns-clause-seen : goal.returns-clause-seen
returns-clause-seen g c = λ start earlier sees told.
    sees_both _ _ c.tell.result (c.tell.ensures.seen start earlier sees.peaks told) (c.in_ok-hear.ensures.meters start earlier sees.needs told)
    (c.in_ok-hear.ensures.sessions start earlier sees.peaks sees.sessions told)
