-- What a task on a machine promises.
use Rattle.std.proofs.Common.{Bor, ◌≡◌, ℕ, ◌≤◌, Bool, true, false, inl, inr, arith, append-nil, ◌++◌, List, [], length, Option, Some, None, IfSome, IfOk, IfErr, Result, Ok, Err, refl, sym, ap, ◌∙◌, subst}
use Rattle.std.specs.Io.KnownBytes.{Appends}
use Rattle.own_model.specs.Listed.{Listed, start_list_of}
use Rattle.own_model.specs.StartList.{StartList, Boots}
use Rattle.own_model.specs.Transcript.{transcript_after}
use Rattle.own_model.specs.AccountList.{account_list_text}
use Rattle.own_model.specs.World.{World, start_world, world_running}
use Rattle.own_model.proofs.StepBalanceLemmas.{totals, lines_balanced}
use Rattle.own_model.proofs.StartLemmas.{start_balanced_for}
use Rattle.list_parser.specs.StartText.{list_in}
use Rattle.std.proofs.lemmas.List.Elements.{All-nil}
use Rattle.run_devices.specs.Lines.{longest_read}
use Rattle.cli_engine.specs.Program.{IsAnswered, IsBoundedFor, IsDone, FailsFor, StopsScenario, TotalsAre, lines_run, ok_line, scenario_text}
use Rattle.run_lines.specs.Machine.{IsMachine, world_of}
use Rattle.cli_engine.specs.Ending.{HasResult}
use Rattle.run_engine.specs.Runs.{Completes}
use Rattle.std.specs.Option.{option_copied}
use Rattle.run_engine.specs.Stops.{Stops}
use Rattle.run_devices.specs.RunOutput.{AppendsPart}
use Rattle.cli_engine.specs.declared.program.TaskFailure.{TaskFailure}
use Rattle.cli_engine.specs.declared.program.TaskFailure.TheVariants as failure
use Rattle.cli_engine.specs.declared.program.Task.{Task}
use Rattle.cli_engine.specs.declared.program.Task.TheVariants as task
use Rattle.run_lines.specs.declared.run_fault.RunFault.{RunFault}
use Rattle.run_lines.specs.declared.run_fault.RunFault.TheVariants.{WriteFault}
use Rattle.run_engine.specs.declared.engine.Summary.{Summary}
use Rattle.run_devices.proofs.GatheredLemmas.{Appends-more}

-- a scenario from the machine's start
from_start : (list : Listed) (world : World) → world ≡ world_of list → (P : World → List ℕ → Type 0) (input : Option (List ℕ)) →
    IfSome input (λ bytes. P world bytes) → IfSome input (λ bytes. P (world_of list) bytes)
from_start list world starts P None holds = tt
from_start list world starts P (Some bytes) holds = subst (λ w. P w bytes) starts holds

-- the totals of the account list are the machine's, whatever was answered
totals_after : (list : StartList) → Boots list → (lines : List (List ℕ)) → TotalsAre list lines
totals_after list covered lines =
    totals list.pages list.caps (world_running (start_world list) lines)
    (lines_balanced list.pages list.caps (start_world list) lines (start_balanced_for list covered).balanced)

-- a text that is read as a list that boots
module _ {text : List ℕ} {listed : Listed} (reads : list_in text ≡ Ok listed) (boots : Boots (start_list_of listed)) where
  machine : IsMachine text listed
  machine = record { reads = reads; boots = boots }

  -- `ok` is told
  pub done_check : (asked : Task) (input written now_written : Option (List ℕ)) (lines : ℕ) → asked ≡ task.Check →
      lines ≡ 0 → Appends written now_written ok_line → IsDone asked text input lines written now_written
  done_check asked input written now_written lines is none tells =
      rw is (record {
        list = listed;
        machine = machine;
        done = record { counted = none; readable = All-nil (λ line. length line ≤ longest_read); tells = tells };
        totals = totals_after (start_list_of listed) boots;
      })

  -- or not all of it
  pub stopped_check : (asked : Task) (fault : RunFault) (max_lines : ℕ) (input rest written now_written : Option (List ℕ)) (failed : Bool) → asked ≡ task.Check →
      fault ≡ WriteFault → AppendsPart written now_written ok_line → FailsFor (failure.Run fault) asked text max_lines input rest failed written now_written
  stopped_check asked fault max_lines input rest written now_written failed is writes tells = rw is (listed, machine, (writes, tells))

  module _ {world : World} (starts : world ≡ start_world (start_list_of listed)) where
    -- the scenario is answered
    pub done_run : (asked : Task) (accounts : Bool) (only : Option (Bor (List ℕ))) (input written now_written : Option (List ℕ)) (lines : ℕ) → asked ≡ task.Run accounts only →
        IfSome input (λ bytes. IsAnswered (scenario_text accounts (option_copied only) listed world bytes) bytes lines written now_written) → IsDone asked text input lines written now_written
    done_run asked accounts only input written now_written lines is answered =
        rw is (record {
          list = listed;
          machine = machine;
          done = from_start listed world starts (λ w bytes. IsAnswered (scenario_text accounts (option_copied only) listed w bytes) bytes lines written now_written) input answered;
          totals = totals_after (start_list_of listed) boots;
        })

    -- or it was stopped
    pub stopped_run : (asked : Task) (accounts : Bool) (only : Option (Bor (List ℕ))) (fault : RunFault) (max_lines : ℕ) (input rest written now_written : Option (List ℕ)) (failed : Bool) →
        asked ≡ task.Run accounts only →
        IfSome input (λ bytes. StopsScenario accounts (option_copied only) fault max_lines listed world bytes rest failed written now_written) →
        FailsFor (failure.Run fault) asked text max_lines input rest failed written now_written
    stopped_run asked accounts only fault max_lines input rest written now_written failed is stops =
        rw is (
          listed,
          machine,
          from_start listed world starts (λ w bytes. StopsScenario accounts (option_copied only) fault max_lines listed w bytes rest failed written now_written) input stops,
        )

-- a scenario that was answered is within the bounds
pub bounded_for : (asked : Task) (text : List ℕ) (max_lines lines : ℕ) (input : List ℕ) (written now_written : Option (List ℕ)) →
    IsDone asked text (Some input) lines written now_written → lines ≤ max_lines → IsBoundedFor asked max_lines input
bounded_for task.Check text max_lines lines input written now_written done few = tt
bounded_for (task.Run accounts only) text max_lines lines input written now_written done few =
    record { few = omega (arith, few, done.done.counted); readable = done.done.readable }

-- ---- a scenario and its account list

-- a run is all that is told
pub told_alone : (accounts : Bool) (only : Option (List ℕ)) (list : Listed) (world last : World) (lines : ℕ) (input written now_written : Option (List ℕ)) → accounts ≡ false →
    IfSome input (λ bytes. Completes only lines world last bytes written now_written) →
    IfSome input (λ bytes. IsAnswered (scenario_text accounts only list world bytes) bytes lines written now_written)
told_alone accounts only list world last lines None written now_written unasked done = tt
told_alone accounts only list world last lines (Some bytes) written now_written unasked done =
    rw unasked (record { counted = done.counted; readable = done.readable; tells = subst (Appends written now_written) (sym (append-nil _)) done.transcript })

-- or the account list of the last states is told behind it
pub told_with_list : (accounts : Bool) → accounts ≡ true → (only : Option (List ℕ)) (list : Listed) (world last : World) (lines : ℕ) (input w w' w'' : Option (List ℕ)) →
    IfSome input (λ bytes. Completes only lines world last bytes w w') → Appends w' w'' (account_list_text list last) →
    IfSome input (λ bytes. IsAnswered (scenario_text accounts only list world bytes) bytes lines w w'')
told_with_list accounts asked only list world last lines None w w' w'' done lists = tt
told_with_list accounts asked only list world last lines (Some bytes) w w' w'' done lists =
    rw asked (record {
      counted = done.counted;
      readable = done.readable;
      tells =
          Appends-more w w' w'' _ _ _ done.transcript lists
          (ap (λ l. transcript_after world.entries world.states [] (lines_run only bytes) ++ l) (ap (account_list_text list) (sym done.world)));
    })

-- the run was stopped
pub stopped_in_run : (only : Option (List ℕ)) (list : Listed) (world new : World) (accounts : Bool) (fault : RunFault) (max_lines : ℕ) (input rest written now_written : Option (List ℕ)) (failed : Bool) →
    IfSome input (λ bytes. Stops only fault max_lines world new bytes rest failed written now_written) →
    IfSome input (λ bytes. StopsScenario accounts only fault max_lines list world bytes rest failed written now_written)
stopped_in_run only list world new accounts fault max_lines None rest written now_written failed stops = tt
stopped_in_run only list world new accounts fault max_lines (Some bytes) rest written now_written failed stops = inl (new, stops)

-- or the account list behind it
pub stopped_in_list : (only : Option (List ℕ)) (list : Listed) (world last : World) (accounts : Bool) (fault : RunFault) (max_lines lines : ℕ) (input rest w w' w'' : Option (List ℕ)) (failed : Bool) →
    accounts ≡ true → fault ≡ WriteFault → lines ≤ max_lines →
    IfSome input (λ bytes. Completes only lines world last bytes w w') → AppendsPart w' w'' (account_list_text list last) →
    IfSome input (λ bytes. StopsScenario accounts only fault max_lines list world bytes rest failed w w'')
stopped_in_list only list world last accounts fault max_lines lines None rest w w' w'' failed asked fails few done part = tt
stopped_in_list only list world last accounts fault max_lines lines (Some bytes) rest w w' w'' failed asked fails few done part = inr (record {
  asked = asked;
  fault_is = fails;
  few = omega (arith, few, done.counted);
  readable = done.readable;
  part = part.part;
  left = part.left;
  parts = ap (account_list_text list) (sym done.world) ∙ part.parts;
  grows = Appends-more w w' w'' _ _ _ done.transcript part.grows refl;
})

-- what a scenario promises
pub ruleset scenarios = (told_alone, stopped_in_run)

-- ---- over the standard streams

-- what came of a task, where the writer tells nothing
pub came_of : (ended : Result Summary TaskFailure) (asked : Task) (text : List ℕ) (max_lines : ℕ) (input rest : Option (List ℕ)) (failed : Bool) →
    IfOk ended (λ summary. IsDone asked text input summary.lines None None) →
    IfErr ended (λ failure. FailsFor failure asked text max_lines input rest failed None None) → HasResult ended asked text max_lines input
came_of (Ok summary) asked text max_lines input rest failed done fails = done
came_of (Err failure) asked text max_lines input rest failed done fails = (rest, (failed, fails))
