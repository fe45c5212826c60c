-- Which causes a play has to stop.
use Rattle.std.proofs.Common.{◌≡◌, ◌≢◌, ℕ, ◌+◌, ◌<◌, Bool, true, List, [], ◌∷◌, ◌++◌, length, get_or, slice_index_or, Option, Some, None, IfSome, ⊎_elim, arith, ◌∙◌, ap, refl, length-append}
use Rattle.std.proofs.lemmas.List.{get_or-append-add}
use Rattle.own_model.specs.Text.{lines_of}
use Rattle.run_lines.specs.Causes.{HasCause}
use Rattle.run_lines.specs.Faults.{is_write_fault as is_unwritten}
use Rattle.run_devices.specs.Lines.{longest_read, AreReadable}
use Rattle.run_lines.specs.LineRuns.{StopsAt}
use Rattle.run_lines.specs.declared.line_run_fault.LineRunFault.{LineRunFault}
use Rattle.run_lines.specs.declared.line_run_fault.LineRunFault.TheVariants.{ReadFault as Unread, WriteFault as Unwritten, TooManyLines as TooMany, NoMemory}

-- a first line that is left can be read where all can
first_readable : (all lines left : List (List ℕ)) → all ≡ lines ++ left → AreReadable all → longest_read < length (slice_index_or left 0 []) → ⊥
first_readable all lines [] parts short long = omega (arith, long)
first_readable all lines (line ∷ left) parts short long =
    let within : length lines + 0 < length all = omega (arith, ap length parts, length-append lines (line ∷ left)) in
    let at : get_or all (length lines + 0) [] ≡ line = ap (λ xs. get_or xs (length lines + 0) []) parts ∙ get_or-append-add lines (line ∷ left) 0 [] in
    omega (arith, short (length lines + 0) [] within, ap length at, long)

-- within the bounds, and with no failed device, only want of room is a cause to stop
pub within_bounds : (fault : LineRunFault) (max_lines : ℕ) (lines left : List (List ℕ)) (text : List ℕ) (rest : Option (List ℕ)) (failed write_failed : Bool) →
    lines_of text ≡ lines ++ left → StopsAt max_lines fault lines left text rest failed → write_failed ≡ is_unwritten (Some fault) → fault ≢ NoMemory → HasCause text max_lines failed write_failed
within_bounds Unread max_lines lines left text rest failed write_failed parts cause fails other =
    λ reads writes short few. ⊎_elim (λ cut. let e : failed ≡ true = cut.0 in cc) (λ long. first_readable (lines_of text) lines left parts short long) cause
within_bounds Unwritten max_lines lines left text rest failed write_failed parts cause fails other = λ reads writes short few. let e : write_failed ≡ true = fails in cc
within_bounds TooMany max_lines lines left text rest failed write_failed parts cause fails other =
    λ reads writes short few. omega (arith, cause.0, cause.1, ap length parts, length-append lines left)
within_bounds NoMemory max_lines lines left text rest failed write_failed parts cause fails other = absurd (other refl)

-- a device that had failed before is a cause
pub cause_unwritten : (input : Option (List ℕ)) (max_lines : ℕ) (failed write_failed : Bool) → write_failed ≡ true → IfSome input (λ text. HasCause text max_lines failed write_failed)
cause_unwritten None max_lines failed write_failed fails = tt
cause_unwritten (Some text) max_lines failed write_failed fails = λ reads writes short few. cc

pub cause_unread : (input : Option (List ℕ)) (max_lines : ℕ) (failed write_failed : Bool) → failed ≡ true → IfSome input (λ text. HasCause text max_lines failed write_failed)
cause_unread None max_lines failed write_failed fails = tt
cause_unread (Some text) max_lines failed write_failed fails = λ reads writes short few. cc
