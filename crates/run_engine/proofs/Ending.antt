-- What a run that has ended promises, whether at the end of its input or at a fault.
use Rattle.std.proofs.Common.{◌≡◌, ◌≢◌, ◌||◌, ℕ, ◌+◌, ◌≤◌, Bool, true, false, List, [], ◌++◌, length, Option, Some, None, IfSome, IfNone, Result, Ok, Err, inl, ⊎_elim, arith, refl, sym, ◌∙◌, ap, subst, append-nil}
use Rattle.std.specs.Io.KnownBytes.{Appends}
use Rattle.own_model.specs.LinesOfName.{said_by}
use Rattle.own_model.specs.Text.{lines_of}
use Rattle.own_model.specs.Transcript.{transcript_after, calls_of, state_at, state_after}
use Rattle.own_model.specs.World.{World, IsBalanced, IsBalancedFor, world_running}
use Rattle.own_model.proofs.StepBalanceLemmas.{lines_balanced, lines_balanced_for}
use Rattle.own_model.proofs.RunningLemmas.{Tracks-none, transcript_after-running, length-states_running, states_running-at}
use Rattle.run_lines.specs.Answered.{output_of_lines, after_all}
use Rattle.run_devices.specs.Lines.{AreReadable}
use Rattle.run_engine.specs.Runs.{Completes, EndsWith, KeepsWorld, Runs}
use Rattle.run_lines.specs.Causes.{HasCause, StopsFor, is_write_fault}
use Rattle.run_devices.specs.RunOutput.{AppendsPart}
use Rattle.run_lines.specs.Faults.{is_write_fault as is_unwritten, play_fault}
use Rattle.run_engine.specs.declared.engine.Summary.{Summary}
use Rattle.run_lines.proofs.CauseLemmas.{within_bounds}
use Rattle.run_lines.proofs.FaultLemmas.{or_first}
use Rattle.run_lines.specs.LineRuns.{EndsAs, PlaysAll, StopsAs, StopsAt, WritesOutput}
use Rattle.run_lines.proofs.PlayLemmas.{unplayed}
use Rattle.run_lines.proofs.ToldLemmas.{left_none, told_none}
use Rattle.run_engine.specs.Stops.{Stops, IsWritten}
use Rattle.run_lines.specs.declared.run_fault.RunFault.{RunFault}
use Rattle.run_lines.proofs.ReachLemmas.{close_as, keeps_up_as}
use Rattle.run_devices.proofs.GatheredLemmas.{Appends-none}
use Rattle.run_lines.specs.declared.run_fault.RunFault.TheVariants.{ReadFault, WriteFault, TooManyLines}
use Rattle.run_lines.specs.declared.line_run_fault.LineRunFault.{LineRunFault}
use Rattle.run_lines.specs.declared.line_run_fault.LineRunFault.TheVariants.{ReadFault as Unread, WriteFault as Unwritten, TooManyLines as TooMany, NoMemory}

-- what is told of lines by the running states is what is told of them by the history
told_same : (world : World) (lines : List (List ℕ)) → output_of_lines None world lines ≡ transcript_after world.entries world.states [] lines
told_same world lines = sym (transcript_after-running world.entries world.states world.states [] lines (Tracks-none world.entries world.states))

-- each own state is that of the component's own run on its own part of the lines that are run
states_at : (old new : World) (lines : List (List ℕ)) → new ≡ world_running old lines → (component : ℕ) →
    state_at new.states component ≡ state_after old.entries old.states (calls_of old.entries lines) component
states_at old new lines left component = ap (λ w. state_at w.states component) left ∙ states_running-at old.entries old.states lines component

-- after any lines a world has as many own states, and the balance stays
keeps_world : (old new : World) (lines : List (List ℕ)) → new ≡ world_running old lines → KeepsWorld old new
keeps_world old new lines left = record {
  entries = ap (λ w. w.entries) left;
  count = ap (λ w. length w.states) left ∙ length-states_running old.entries old.states lines;
  balance = λ pages caps balanced. subst (IsBalanced pages caps) (sym left) (lines_balanced pages caps old lines balanced);
  shares = λ list balanced. subst (IsBalancedFor list) (sym left) (lines_balanced_for list old lines balanced);
}

-- where no line is left, those answered are all
all_answered : (text : List ℕ) (answered left : List (List ℕ)) → lines_of text ≡ answered ++ left → left ≡ [] → answered ≡ lines_of text
all_answered text answered left parts none = sym (parts ∙ ap (λ l. answered ++ l) none ∙ append-nil answered)

-- where the engine's player is led
record IsLed (only : Option (List ℕ)) (old new : World) (leads : List (List ℕ) → Type 0) (stops : LineRunFault → List (List ℕ) → Type 0) : Type 0 where
  on : (lines : List (List ℕ)) → leads lines → new ≡ after_all only old lines
  stopped : (fault : LineRunFault) (lines : List (List ℕ)) → stops fault lines → (fault ≡ Unwritten) × (new ≡ after_all only old lines)

-- a run that answers Ok has come to the end of its input
completes : {only : Option (List ℕ)} {leads : List (List ℕ) → Type 0} {stops : LineRunFault → List (List ℕ) → Type 0} {count max_lines : ℕ} {old new : World} {input rest : Option (List ℕ)} {failed : Bool} {written now_written : Option (List ℕ)} →
    IsLed only old new leads stops → PlaysAll (output_of_lines only old) leads stops None count max_lines [] input rest failed written now_written →
    IfSome input (λ text. Completes only count old new text written now_written)
completes {input = None} led plays = tt
completes {only = only} {count = count} {old = old} {new = new} {input = Some text} {written = written} {now_written = now_written} led plays =
    let all : plays.given ≡ lines_of text = all_answered text plays.given plays.ends.0 plays.ends.1 plays.ends.2.0 in
    let left : new ≡ world_running old (said_by only (lines_of text)) = led.on plays.given plays.ends_as ∙ ap (after_all only old) all in
    record {
      counted = plays.counted ∙ ap length all;
      readable = subst AreReadable all plays.readable;
      transcript = subst (Appends written now_written) (told_same old (said_by only plays.given) ∙ ap (λ lines. transcript_after old.entries old.states [] (said_by only lines)) all) plays.writes;
      states = states_at old new (said_by only (lines_of text)) left;
      world = left;
    }

-- what is written at a fault, and why it came
written_for : (fault : RunFault) (written now_written : Option (List ℕ)) (a b : List ℕ) → a ≡ b → WritesOutput (Some (play_fault fault)) written now_written a → IsWritten fault written now_written b
written_for ReadFault written now_written a b same writes = subst (Appends written now_written) same writes
written_for WriteFault written now_written a b same writes = subst (AppendsPart written now_written) same writes
written_for TooManyLines written now_written a b same writes = subst (Appends written now_written) same writes

cause_for : (fault : RunFault) (max_lines : ℕ) (answered left : List (List ℕ)) (text : List ℕ) (rest : Option (List ℕ)) (failed : Bool) →
    StopsAt max_lines (play_fault fault) answered left text rest failed → StopsFor fault answered left max_lines text rest failed
cause_for ReadFault max_lines answered left text rest failed stops = stops
cause_for WriteFault max_lines answered left text rest failed stops = stops
cause_for TooManyLines max_lines answered left text rest failed stops = stops

-- which world is left
left_at : (fault : RunFault) {only : Option (List ℕ)} {leads : List (List ℕ) → Type 0} {stops : LineRunFault → List (List ℕ) → Type 0} {old new : World} (lines : List (List ℕ)) →
    IsLed only old new leads stops → StopsAs leads stops (play_fault fault) lines → new ≡ after_all only old lines
left_at ReadFault lines led ended = led.on lines ended
left_at WriteFault lines led ended = ⊎_elim (λ on. led.on lines on) (λ stopped. (led.stopped Unwritten lines stopped).1) ended
left_at TooManyLines lines led ended = led.on lines ended

-- a run that stops has answered the first lines
module _ {only : Option (List ℕ)} {leads : List (List ℕ) → Type 0} {stops : LineRunFault → List (List ℕ) → Type 0} (fault : RunFault) {count max_lines : ℕ} {old new : World} where
  stops_at : {input rest : Option (List ℕ)} {failed : Bool} {written now_written : Option (List ℕ)} →
      IsLed only old new leads stops → PlaysAll (output_of_lines only old) leads stops (Some (play_fault fault)) count max_lines [] input rest failed written now_written →
      IfSome input (λ text. Stops only fault max_lines old new text rest failed written now_written)
  stops_at {input = None} led plays = tt
  stops_at {input = Some text} {rest = rest} {failed = failed} {written = written} {now_written = now_written} led plays = record {
    answered = plays.given;
    left = plays.ends.0;
    lines = plays.ends.1;
    cause = cause_for fault max_lines plays.given plays.ends.0 text rest failed plays.ends.2;
    readable = plays.readable;
    keeps_up =
        keeps_up_as (output_of_lines only old) (λ lines. transcript_after old.entries old.states [] (said_by only lines)) (λ lines. told_same old (said_by only lines)) (plays.keeps_up refl);
    close =
        close_as (output_of_lines only old) (λ lines. transcript_after old.entries old.states [] (said_by only lines)) (λ lines. told_same old (said_by only lines)) plays.close;
    told = written_for fault written now_written _ _ (told_same old (said_by only plays.given)) plays.writes;
    states = states_at old new (said_by only plays.given) (left_at fault plays.given led plays.ends_as);
    world = left_at fault plays.given led plays.ends_as;
  }

-- so it answers Ok
no_want : (fault : RunFault) → play_fault fault ≢ NoMemory
no_want ReadFault = λ is. cc
no_want WriteFault = λ is. cc
no_want TooManyLines = λ is. cc

not_stopped : (only : Option (List ℕ)) {leads : List (List ℕ) → Type 0} {stops : LineRunFault → List (List ℕ) → Type 0} (fault : RunFault) {count max_lines : ℕ} (old : World) {input rest : Option (List ℕ)} {failed : Bool} {written now_written : Option (List ℕ)} (write_failed : Bool) →
    PlaysAll (output_of_lines only old) leads stops (Some (play_fault fault)) count max_lines [] input rest failed written now_written → write_failed ≡ is_unwritten (Some (play_fault fault)) →
    IfSome input (λ text. HasCause text max_lines failed write_failed)
not_stopped only fault old {input = None} write_failed plays fails = tt
not_stopped only fault {max_lines = max_lines} old {input = Some text} {rest = rest} {failed = failed} write_failed plays fails =
    within_bounds (play_fault fault) max_lines plays.given plays.ends.0 text rest failed write_failed plays.ends.1 plays.ends.2 fails (no_want fault)

-- ---- all that is promised of a run

-- what a failed write is told as
write_told : (fault : RunFault) → is_unwritten (Some (play_fault fault)) ≡ is_write_fault {T = Summary} (Err fault)
write_told ReadFault = refl
write_told WriteFault = refl
write_told TooManyLines = refl

module _ {only : Option (List ℕ)} {leads : List (List ℕ) → Type 0} {stops : LineRunFault → List (List ℕ) → Type 0} {count max_lines : ℕ} {old new : World} {input rest : Option (List ℕ)} {failed write_failed : Bool} {written now_written : Option (List ℕ)}
    (led : IsLed only old new leads stops) where
  runs_at : (fault : Option LineRunFault) (result : Result Summary RunFault) → EndsWith fault count result → PlaysAll (output_of_lines only old) leads stops fault count max_lines [] input rest failed written now_written →
      (write_failed || false) ≡ is_unwritten fault → IfNone fault (failed ≡ false) → count ≤ max_lines → Runs only result max_lines old new input rest failed write_failed written now_written
  runs_at fault (Ok summary) ends plays writing reading few =
      let at : PlaysAll (output_of_lines only old) leads stops None count max_lines [] input rest failed written now_written =
      subst (λ f. PlaysAll (output_of_lines only old) leads stops f count max_lines [] input rest failed written now_written) ends.0 plays in
      record {
        few = subst (λ n. n ≤ max_lines) (sym ends.1) few;
        done = subst (λ n. IfSome input (λ text. Completes only n old new text written now_written)) (sym ends.1) (completes led at);
        keeps = keeps_world old new (said_by only at.given) (led.on at.given at.ends_as);
        writing = sym (or_first write_failed false refl) ∙ writing ∙ ap is_unwritten ends.0;
        reading = subst (λ (f : Option LineRunFault). IfNone f (failed ≡ false)) ends.0 reading;
        stops = tt;
        ok = tt;
      }
  runs_at fault (Err stopped) ends plays writing reading few =
      let at : PlaysAll (output_of_lines only old) leads stops (Some (play_fault stopped)) count max_lines [] input rest failed written now_written =
      subst (λ f. PlaysAll (output_of_lines only old) leads stops f count max_lines [] input rest failed written now_written) ends plays in
      let fails : write_failed ≡ is_unwritten (Some (play_fault stopped)) = sym (or_first write_failed false refl) ∙ writing ∙ ap is_unwritten ends in
      record {
        few = tt;
        done = tt;
        keeps = keeps_world old new (said_by only at.given) (left_at stopped at.given led at.ends_as);
        writing = fails ∙ write_told stopped;
        reading = tt;
        stops = stops_at stopped led at;
        ok = not_stopped only stopped old write_failed at fails;
      }

-- of a play of the engine's player
module _ {A : Type 0} (only : Option (List ℕ)) (old new : World) {count max_lines : ℕ} {front : List ℕ} {input rest : Option (List ℕ)} {failed : Bool} {written now_written : Option (List ℕ)} (fault : Option LineRunFault)
    (plays : PlaysAll (output_of_lines only old) (λ lines. A × (new ≡ after_all only old lines)) (λ fault lines. (fault ≡ Unwritten) × (new ≡ after_all only old lines)) fault count max_lines front input rest failed written now_written) where
  abbrev leads_so : List (List ℕ) → Type 0
  leads_so lines = A × (new ≡ after_all only old lines)

  abbrev stops_so : LineRunFault → List (List ℕ) → Type 0
  stops_so f lines = (f ≡ Unwritten) × (new ≡ after_all only old lines)

  -- with nothing gathered before
  pub runs : (write_failed : Bool) (result : Result Summary RunFault) → front ≡ [] → EndsWith fault count result →
      (write_failed || false) ≡ is_unwritten fault → IfNone fault (failed ≡ false) → count ≤ max_lines → Runs only result max_lines old new input rest failed write_failed written now_written
  runs write_failed result none ends writing reading few =
      runs_at {leads = leads_so} {stops = stops_so} (record { on = λ lines led. led.1; stopped = λ f lines stopped. stopped }) fault result ends
      (subst (λ g. PlaysAll (output_of_lines only old) leads_so stops_so fault count max_lines g input rest failed written now_written) none plays) writing reading few

  -- it never wants for room
  pub has_room : IfSome fault (λ f. f ≢ NoMemory)
  has_room = by fault plays.given plays.ends_as
    where
      by : (f : Option LineRunFault) (lines : List (List ℕ)) → EndsAs leads_so stops_so f lines → IfSome f (λ g. g ≢ NoMemory)
      by None lines ended = tt
      by (Some Unread) lines ended = λ is. cc
      by (Some Unwritten) lines ended = λ is. cc
      by (Some TooMany) lines ended = λ is. cc
      by (Some NoMemory) lines ended = λ is. let e : NoMemory ≡ Unwritten = ended.0 in cc

-- where a device had failed before, no line is played
module _ (only : Option (List ℕ)) (max_lines : ℕ) (world : World) (input written : Option (List ℕ)) (failed write_failed : Bool) where
  abbrev leads_here : List (List ℕ) → Type 0
  leads_here lines = world ≡ after_all only world lines

  abbrev stops_here : LineRunFault → List (List ℕ) → Type 0
  stops_here fault lines = (fault ≡ Unwritten) × (world ≡ after_all only world lines)

  led_here : IsLed only world world leads_here stops_here
  led_here = record { on = λ lines led. led; stopped = λ fault lines stopped. stopped }

  unread_run : (fault : RunFault) → StopsAs leads_here stops_here (play_fault fault) [] → WritesOutput (Some (play_fault fault)) written written [] →
      ((text : List ℕ) → StopsAt max_lines (play_fault fault) [] (lines_of text) text (Some text) failed) → write_failed ≡ is_unwritten (Some (play_fault fault)) →
      Runs only (Err fault) max_lines world world input input failed write_failed written written
  unread_run fault ended writes cause fails =
      runs_at led_here (Some (play_fault fault)) (Err fault) refl
      (unplayed (output_of_lines only world) leads_here stops_here (play_fault fault) max_lines input written failed (told_none only world) ended writes cause)
      (or_first write_failed false refl ∙ fails) tt (omega arith)

  -- the writer
  pub runs_unwritten : write_failed ≡ true → Runs only (Err WriteFault) max_lines world world input input failed write_failed written written
  runs_unwritten fails =
      unread_run WriteFault (inl (sym (left_none only world))) (record { part = []; left = []; parts = refl; grows = Appends-none written })
      (λ text. (omega arith, record { read = []; left = text; is_left = refl; parts = refl; whole = inl (omega arith) })) fails

  -- or the reader
  pub runs_unread : write_failed ≡ false → failed ≡ true → Runs only (Err ReadFault) max_lines world world input input failed write_failed written written
  runs_unread works fails =
      unread_run ReadFault (sym (left_none only world)) (Appends-none written)
      (λ text. inl (fails, record { read = []; left = text; is_left = refl; parts = refl; ended = inl refl })) works
