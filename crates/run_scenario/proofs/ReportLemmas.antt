-- What is reported of a line.
use Rattle.std.proofs.Common.{◌≡◌, ℕ, Bool, true, false, List, [], Option, Result, Ok, Err, IfOk, IsErrAnd, refl, sym, ◌∙◌, ap}
use Rattle.std.specs.Io.KnownBytes.{Appends}
use Rattle.own_model.specs.Listed.{Listed}
use Rattle.own_model.specs.World.{World}
use Rattle.line_steps.specs.ResolvedLines.{ResolvedLine}
use Rattle.line_steps.specs.ResolvedLines.ResolvedLine.{TooLong}
use Rattle.run_devices.proofs.GatheredLemmas.{Appends-none}
use Rattle.run_lines.specs.declared.line_run_fault.LineRunFault.{LineRunFault}
use Rattle.view_diagnostics.specs.Diagnostics.{SubjectAt, diagnostic}
use Rattle.view_diagnostics.specs.declared.diagnostics.Severity.TheVariants.{Error}
use Rattle.view_diagnostics.specs.declared.place.FilePlace.TheVariants.{Byte}
use Rattle.run_scenario.specs.Judging.{Awaited, has_error}
use Rattle.run_scenario.specs.Reports.{AppendsReport, Reports}

module _ (subject : SubjectAt) (number : ℕ) where
  -- an error is reported
  pub reported : (column : ℕ) (pieces : List (List ℕ)) (old new : Option (List ℕ)) → Appends old new (diagnostic subject (Byte number column) Error pieces) →
      AppendsReport subject number true old new
  reported column pieces old new grows = (diagnostic subject (Byte number column) Error pieces, (column, pieces, refl), grows)

  -- or nothing is
  pub unreported : (old : Option (List ℕ)) → AppendsReport subject number false old old
  unreported old = ([], refl, Appends-none old)

  -- or a write failed
  pub report_failed : (Q : LineRunFault → Type 0) (r : Result Bool LineRunFault) (old new : Option (List ℕ)) → IsErrAnd r Q → Reports subject number r old new
  report_failed Q (Ok done) old new is = absurd is
  report_failed Q (Err fault) old new is = tt

-- a line that is too long has an error
pub judged_long : (list : Listed) (only : Option (List ℕ)) (old : World) (meant : Bool) (awaited : Awaited) (r : Result Bool LineRunFault) (resolved : ResolvedLine) → resolved ≡ TooLong → IfOk r (λ complained. complained ≡ true) →
    IfOk r (λ complained. complained ≡ has_error list only old meant resolved awaited)
judged_long list only old meant awaited (Ok complained) resolved is judged = judged ∙ sym (ap (λ it. has_error list only old meant it awaited) is)
judged_long list only old meant awaited (Err fault) resolved is judged = tt
