-- Which faults come, and whether a write has failed then.
use Rattle.std.proofs.Common.{◌≡◌, Bool, true, false, ◌||◌, Some, None, Result, Ok, Err, IfErr, IsErrAnd, OnErr, refl, sym, ◌∙◌, ap}
use Rattle.std.proofs.Math.Bool.{or-true}
use Rattle.run_lines.specs.Next.{AllWork}
use Rattle.run_scenario.specs.Faults.{fault_before}
use Rattle.run_lines.specs.Faults.{Fails}
use Rattle.run_lines.proofs.FaultLemmas.{or_first}
use Rattle.run_lines.specs.declared.line_run_fault.LineRunFault.{LineRunFault}
use Rattle.run_lines.specs.declared.line_run_fault.LineRunFault.TheVariants.{ReadFault, WriteFault, TooManyLines, NoMemory}

-- a fault of the complaints, where the writer works
pub fails_beside : {T : Type 0} (r : Result T LineRunFault) (a b takes more : Bool) → a ≡ false → Fails r b takes → (takes ≡ true → more ≡ true) → Fails r (a || b) more
fails_beside (Ok done) a b takes more works fails wider = rw works fails
fails_beside (Err ReadFault) a b takes more works fails wider = fails
fails_beside (Err WriteFault) a b takes more works fails wider = rw works fails
fails_beside (Err TooManyLines) a b takes more works fails wider = fails
fails_beside (Err NoMemory) a b takes more works fails wider = (rw works (fails.0), wider fails.1)

-- and of the writer, where the complaints work
pub fails_before : (A T : Type 0) (fault : LineRunFault) (a b takes more : Bool) → b ≡ false → Fails {T = A} (Err fault) a takes → (takes ≡ true → more ≡ true) → Fails {T = T} (Err fault) (a || b) more
fails_before A T ReadFault a b takes more works fails wider = fails
fails_before A T WriteFault a b takes more works fails wider = or_first a b works ∙ fails
fails_before A T TooManyLines a b takes more works fails wider = fails
fails_before A T NoMemory a b takes more works fails wider = (or_first a b works ∙ fails.0, wider fails.1)

-- where rounds begin or end behind what failed, or didn't
pub fails_crossing : {T : Type 0} (r : Result T LineRunFault) (failed takes due crosses : Bool) → failed ≡ false → IfErr r (λ fault. fault ≡ NoMemory) → OnErr r (due ≡ true) → due ≡ crosses → Fails r failed (takes || crosses)
fails_crossing (Ok done) failed takes due crosses works room cross same = works
fails_crossing (Err fault) failed takes due crosses works room cross same = rw room (works, ap (λ b. takes || b) (sym same ∙ cross) ∙ or-true takes)

pub fails_or : (T : Type 0) (fault : LineRunFault) (failed takes crosses : Bool) → Fails {T = T} (Err fault) failed takes → Fails {T = T} (Err fault) failed (takes || crosses)
fails_or T ReadFault failed takes crosses fails = fails
fails_or T WriteFault failed takes crosses fails = fails
fails_or T TooManyLines failed takes crosses fails = fails
fails_or T NoMemory failed takes crosses fails = (fails.0, ap (λ b. b || crosses) fails.1)

-- a fault that is handed on
pub unwritten : {T : Type 0} (r : Result T LineRunFault) (failed takes : Bool) → IsErrAnd r (λ fault. fault ≡ WriteFault) → failed ≡ true → Fails r failed takes
unwritten (Ok done) failed takes is fails = absurd is
unwritten (Err fault) failed takes is fails = rw is fails

pub roomless : {T : Type 0} (r : Result T LineRunFault) (failed takes : Bool) → IsErrAnd r (λ fault. fault ≡ NoMemory) → failed ≡ false → takes ≡ true → Fails r failed takes
roomless (Ok done) failed takes is works room = absurd is
roomless (Err fault) failed takes is works room = rw is (works, room)

-- devices of which none had failed
pub all_work : (read_failed write_failed complaint_failed : Bool) → fault_before read_failed (write_failed || complaint_failed) ≡ None → AllWork read_failed write_failed complaint_failed
all_work false false false none = record { reads = refl; writes = refl; own = refl }
all_work true false false none = absurd (let e : Some ReadFault ≡ None = none in cc)
all_work r true c none = absurd (let e : Some WriteFault ≡ None = none in cc)
all_work r false true none = absurd (let e : Some WriteFault ≡ None = none in cc)
