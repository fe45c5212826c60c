-- What is told where a play may stop, and which faults come.
use Rattle.std.proofs.Common.{◌≡◌, ◌||◌, ◌++◌, ℕ, Bool, true, false, List, Option, Some, Result, Ok, Err, IfOk, OnOk, refl, ◌∙◌}
use Rattle.std.proofs.lemmas.Bool.{or_parts}
use Rattle.std.specs.Result.{result_err}
use Rattle.run_lines.specs.Faults.{Fails, is_write_fault, line_fault}
use Rattle.run_devices.specs.RunOutput.{Tells}
use Rattle.run_lines.specs.Next.{AllWork, OutputsAt, OutputsOrStops, is_write_fault as is_unwritten}
use Rattle.run_lines.specs.LineRuns.{more_unless_stopped}
use Rattle.run_lines.specs.declared.lines.LineFault.{LineFault}
use Rattle.run_lines.specs.declared.lines.LineFault.TheVariants.{Read, Write, Endless}
use Rattle.run_lines.specs.declared.line_run_fault.LineRunFault.{LineRunFault}
use Rattle.run_lines.specs.declared.line_run_fault.LineRunFault.TheVariants.{ReadFault, WriteFault, TooManyLines, NoMemory}
use Rattle.run_devices.proofs.GatheredLemmas.{Tells-more}

-- a text is told, and then one up to a fault
pub told_at : {w w' : Option (List ℕ)} {g g' xs : List ℕ} (w'' : Option (List ℕ)) (ys : List ℕ) (fault : LineFault) →
    Tells w g w' g' xs → OutputsAt fault w' g' w'' ys → OutputsAt fault w g w'' (xs ++ ys)
told_at w'' ys Read first then = Tells-more first then
told_at w'' ys Write first then = (then.0, Tells-more first (then.1))
told_at w'' ys Endless first then = Tells-more first then

-- and then one unless a fault comes
pub told_then : {T : Type 0} {w w' : Option (List ℕ)} {g g' xs : List ℕ} (w'' : Option (List ℕ)) (g'' ys : List ℕ) (result : Result T LineFault) →
    Tells w g w' g' xs → OutputsOrStops result w' g' w'' g'' ys → OutputsOrStops result w g w'' g'' (xs ++ ys)
told_then w'' g'' ys (Ok x) first then = Tells-more first then
told_then w'' g'' ys (Err fault) first then = told_at w'' ys fault first then

-- ---- faults of a play

pub or_first : (a b : Bool) → b ≡ false → (a || b) ≡ a
or_first true b none = refl
or_first false b none = none

-- a write has failed just where the fault says so
pub fails_writing : {T : Type 0} (r : Result T LineRunFault) (failed takes : Bool) → Fails r failed takes → failed ≡ is_write_fault (result_err r)
fails_writing (Ok done) failed takes fails = fails
fails_writing (Err ReadFault) failed takes fails = absurd fails
fails_writing (Err WriteFault) failed takes fails = fails
fails_writing (Err TooManyLines) failed takes fails = absurd fails
fails_writing (Err NoMemory) failed takes fails = fails.0

pub line_writing : {T : Type 0} (r : Result T LineRunFault) (failed takes : Bool) → Fails r failed takes → failed ≡ is_write_fault (result_err (more_unless_stopped r))
line_writing (Ok done) failed takes fails = fails
line_writing {T = T} (Err fault) failed takes fails = fails_writing {T = T} (Err fault) failed takes fails

pub fault_writing : (T : Type 0) (fault : LineFault) (a b : Bool) → a ≡ is_unwritten {T = T} (Err fault) → b ≡ false → (a || b) ≡ is_write_fault (Some (line_fault fault))
fault_writing T Read a b fails works = or_first a b works ∙ fails
fault_writing T Write a b fails works = or_first a b works ∙ fails
fault_writing T Endless a b fails works = or_first a b works ∙ fails

-- where it goes on all works
pub works_on : {T : Type 0} (r : Result T LineRunFault) (reads a b : Bool) → reads ≡ false → Fails r (a || b) true → OnOk (more_unless_stopped r) (AllWork reads a b)
works_on (Ok done) reads a b read fails = let both = or_parts a b fails in record { reads = read; writes = both.0; own = both.1 }
works_on (Err fault) reads a b read fails = tt

pub ready_on : {T : Type 0} (P : Type 0) (r : Result T LineRunFault) → OnOk r P → IfOk (more_unless_stopped r) (λ going. going ≡ true → P)
ready_on P (Ok done) ready = λ going. ready
ready_on P (Err fault) ready = tt
