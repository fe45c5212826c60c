-- How the run of a test ends.
use Rattle.std.proofs.Common.{◌≡◌, ◌≢◌, ◌∙◌, ◌++◌, ◌||◌, ℕ, ap, append-nil, Bool, false, true≢false, List, Option, Some, None, IfErr, IfNone, IfOk, IfSome, OnOk, Result, Ok, Err, refl, subst, sym}
use Rattle.own_model.specs.Listed.{Listed, start_list_of}
use Rattle.own_model.specs.StartList.{Boots}
use Rattle.line_steps.specs.RunPosition.{RunPosition}
use Rattle.list_parser.specs.Quota.{quota_fault}
use Rattle.list_parser.specs.declared.fault.BootFault.{BootFault}
use Rattle.list_parser.specs.declared.fault.BootFault.TheVariants.{NoMemory}
use Rattle.run_lines.specs.LineRuns.{EndsFor}
use Rattle.run_lines.specs.declared.line_run_fault.LineRunFault.{LineRunFault}
use Rattle.run_scenario.specs.Faults.{fault_before}
use Rattle.run_scenario.specs.LineSteps.{LineStep}
use Rattle.run_scenario.specs.ScenarioRuns.{most_lines}
use Rattle.run_scenario.specs.Writes.{AreAll, IsRunFrom, start_on}
use Rattle.run_scenario.specs.declared.scenario_end.ScenarioEnd.{ScenarioEnd}
use Rattle.cli_base.specs.ListFailures.{boot_lacks_memory}
use Rattle.cli_base.specs.declared.settings.Settings.{Settings}
use Rattle.line_names.specs.RoundMarks.{RoundMark}
use Rattle.cli_tests.specs.ScenarioTest.{EndsRun, IsRunOf, PassesBy, run_lacks_memory}
use Rattle.cli_tests.specs.declared.scenario_run.TestRun.{TestRun}

-- devices that haven't failed are no fault before the run
pub none_before : (r k e : Bool) → r ≡ false → k ≡ false → e ≡ false → fault_before r (k || e) ≡ None
none_before r k e read written told = rw (read, written, told) refl

-- all lines were run if there was no fault
all_lines : (fault : Option LineRunFault) (text rest : Option (List ℕ)) (lines : List (List ℕ)) (failed : Bool)
    → EndsFor most_lines fault lines text rest failed → IfNone fault (IfSome text (AreAll lines))
all_lines (Some fault) text rest lines failed ends = tt
all_lines None None rest lines failed ends = tt
all_lines None (Some text) rest lines failed ends = ends.1 ∙ ap (λ left. lines ++ left) ends.2.0 ∙ append-nil lines

-- lines that were run and what was written for them are lines that were run
pub run_of : (list : Listed) (first begun : RunPosition) (text : Option (List ℕ)) {told behind : List LineStep → List ℕ} {calls : Bool} {reports : List (List ℕ) → Type 0}
    (ending : ScenarioEnd) {input rest : Option (List ℕ)} {failed : Bool} {w w' : Option (List ℕ)} → begun ≡ first → input ≡ text → Boots (start_list_of list)
    → IsRunFrom (start_on None begun list) told behind calls reports ending input rest failed w w' → IsRunOf list first text ending
run_of list first begun text ending {input = input} begins reads boots run =
    subst (λ t. IsRunOf list first t ending) reads
    (subst (λ position. IsRunOf list position input ending) begins
    (record {
      boots = boots;
      given = run.given;
      readable = run.readable;
      all = all_lines ending.fault _ _ run.given _ run.ends;
      counted = run.counted;
      complained = run.complained;
    }))

-- a machine that doesn't boot
pub unbooted_end : (list : Listed) (first : RunPosition) (text : Option (List ℕ)) (fault : BootFault)
    → (fault ≢ NoMemory → quota_fault list ≡ Some fault) → run_lacks_memory (Err fault) ≡ false → EndsRun list first text (Err fault)
unbooted_end list first text fault unbooted memory = unbooted (λ is. true≢false (ap boot_lacks_memory (sym is) ∙ memory))

-- a run of lines, or a machine that doesn't boot
pub ends_run : (list : Listed) (first : RunPosition) (text : Option (List ℕ)) (P : ScenarioEnd → Type 0) (ended : Result ScenarioEnd BootFault)
    → IfOk ended P → OnOk ended (Boots (start_list_of list)) → ((ending : ScenarioEnd) → Boots (start_list_of list) → P ending → IsRunOf list first text ending)
    → IfErr ended (λ fault. fault ≢ NoMemory → quota_fault list ≡ Some fault) → run_lacks_memory ended ≡ false → EndsRun list first text ended
ends_run list first text P (Ok ending) run boots of unbooted memory = of ending boots run
ends_run list first text P (Err fault) run boots of unbooted memory = unbooted_end list first text fault unbooted memory

-- what holds of the end of a run that had memory holds of the run that is kept
pub kept_end : {E : Type 0} (P : Result ScenarioEnd BootFault → Type 0) (ended : Result ScenarioEnd BootFault) (result : Result TestRun E)
    → IfOk result (λ run. run.ended ≡ ended) → IfOk result (λ run. run_lacks_memory ended ≡ false) → (run_lacks_memory ended ≡ false → P ended)
    → IfOk result (λ run. P run.ended)
kept_end P ended (Ok run) is memory holds = subst P (sym is) (holds memory)
kept_end P ended (Err error) is memory holds = tt

-- a run of a text that is known is one of a text that may not be known
pub less_known : (settings : Settings) (list : Listed) (marks : List RoundMark) (known text : Option (List ℕ)) (passed : Bool)
    → IfSome known (λ bytes. text ≡ Some bytes) → PassesBy settings list marks text passed → PassesBy settings list marks known passed
less_known settings list marks (Some bytes) text passed is passes = subst (λ t. PassesBy settings list marks t passed) is passes
less_known settings list marks None text passed is (Ok ending, run, memory, answered) = (
  Ok ending,
  (record {
    boots = run.boots;
    given = run.given;
    readable = run.readable;
    all = unknown ending.fault;
    counted = run.counted;
    complained = run.complained;
  }),
  memory,
  answered,
)
  where
    unknown : (fault : Option LineRunFault) → IfNone fault (IfSome None (AreAll run.given))
    unknown (Some fault) = tt
    unknown None = tt
less_known settings list marks None text passed is (Err fault, run, memory, answered) = (Err fault, run, memory, answered)
