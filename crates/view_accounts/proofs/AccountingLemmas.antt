-- What a watch of peaks and needs has seen.
use Rattle.std.proofs.Common.{ℕ, List, Result, Ok, Err, OnOk}
use Rattle.own_model.specs.Listed.{Listed}
use Rattle.own_model.specs.World.{World}
use Rattle.view_accounts.specs.Accounting.{SeesAccounts}
use Rattle.view_accounts.specs.Kept.{SeesPeaks, peaked}
use Rattle.view_accounts.specs.KeptSessions.{SeesSessions}
use Rattle.view_accounts.specs.Meters.{SeesNeeds}
use Rattle.view_accounts.specs.declared.accounting.Accounting.{Accounting}

pub sees_both : {T E : Type 0} (observer : Accounting) (listed : Listed) {start : World} {calls : List (List ℕ)} (r : Result T E) →
    OnOk r (SeesPeaks (peaked observer.peaks.init) observer.peaks.components.items observer.peaks.sessions listed start calls) → SeesNeeds observer.needs.meters.items start calls →
    SeesSessions observer.needs.lines observer.needs.sessions listed start calls → OnOk r (SeesAccounts observer listed start calls)
sees_both observer listed (Ok done) peaks needs sessions = record { peaks = peaks; needs = needs; sessions = sessions }
sees_both observer listed (Err fault) peaks needs sessions = tt
