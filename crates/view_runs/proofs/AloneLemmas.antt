-- What a name's calls are told hangs on no others' calls.
use Rattle.std.proofs.Common.{◌≡◌, ℕ, ◌+◌, ◌<◌, ◌^◌, ◌&&◌, Bool, true, false, cond, List, [], ◌∷◌, ◌++◌, length, length-append, map, codes, decimal, nat_le, Option, Some, None, refl, sym, ◌∙◌, ap, subst, arith}
use Rattle.std.proofs.lemmas.Bool.Decides.{nat_tests}
use Rattle.std.proofs.lemmas.Slice.Eq.{bytes_eq-Decides}
use Rattle.own_model.specs.Call.{Spoken, parsed_call}
use Rattle.own_model.specs.OwnStep.{own_step}
use Rattle.std.specs.List.{flat_map}
use Rattle.std.specs.Option.{option_map_or}
use Rattle.own_model.specs.Reply.{log_text, printed, reply_text}
use Rattle.own_model.specs.LinesOfName.{component_of, is_line_of, is_under, said_by}
use Rattle.own_model.specs.StartList.{Entry, Kind}
use Rattle.own_model.specs.StartList.Kind.{Script, Server, Init}
use Rattle.own_model.specs.Transcript.{Heard, entry_at, heard, heard_call, classify_call, heard_spoken, longest_line, outcome_text, state_at}
use Rattle.own_model.specs.Transcript.Heard.{NoCall, Stranger, Caller}
use Rattle.own_model.specs.World.{World, world_running}
use Rattle.own_model.specs.Running.{told_now}
use Rattle.own_model.proofs.RunningLemmas.{states_running-at}
use Rattle.own_model.proofs.RunSaidByLemmas.{pieces_stand_alone, state_stands_alone}
use Rattle.run_lines.specs.Answer.{AnswersLine, IsAnswer, answer_text, answered_name, answered_reply, finished_lines}
use Rattle.run_lines.specs.Answered.{after_all}
use Rattle.run_lines.specs.declared.line_answer.LineAnswer.{LineAnswer}
use Rattle.run_lines.proofs.AnsweringLemmas.{told_answer, said_one}
use Rattle.run_lines.proofs.ToldLemmas.{left_by_both, said_by-append}
use Rattle.view_runs.specs.Alone.{AreAlike, SeesAlone, alone_call_text, told_in}
use Rattle.run_scenario.specs.RunCalls.{calls_of_steps}
use Rattle.run_scenario.specs.Texts.{in_brackets, line_text}

-- a call that was heard is the name's
abbrev IsOf : List ℕ → List Entry → Heard → Type 0
IsOf name entries NoCall = Unit {0}
IsOf name entries (Stranger other) = Unit {0}
IsOf name entries (Caller made) = component_of entries name ≡ Some made.component

is_of_kind : (name : List ℕ) (entries : List Entry) (says : Spoken) (component : ℕ) (kind : Kind) → component_of entries name ≡ Some component → IsOf name entries (classify_call kind says component)
is_of_kind name entries says component Script is = is
is_of_kind name entries says component Server is = is
is_of_kind name entries says component Init is = tt

is_of_found : (name : List ℕ) (entries : List Entry) (says : Spoken) (found : Option ℕ) → component_of entries name ≡ found → IsOf name entries (heard_call entries says found)
is_of_found name entries says None is = tt
is_of_found name entries says (Some component) is = is_of_kind name entries says component (entry_at entries component).kind is

is_of_spoken : (name : List ℕ) (entries : List Entry) (says : Option Spoken) → is_under name says ≡ true → IsOf name entries (heard_spoken entries says)
is_of_spoken name entries None under = tt
is_of_spoken name entries (Some says) under =
    let same : says.name ≡ name = grind (arith, nat_tests, bytes_eq-Decides) in
    is_of_found name entries says (component_of entries says.name) (ap (component_of entries) (sym same))

is_of_line : (name : List ℕ) (entries : List Entry) (line : List ℕ) (short : Bool) → (short && is_under name (parsed_call line)) ≡ true →
    IsOf name entries (cond short (heard_spoken entries (parsed_call line)) NoCall)
is_of_line name entries line false said = tt
is_of_line name entries line true said = is_of_spoken name entries (parsed_call line) said

-- what is heard of a name's line is the name's
pub is_of_heard : (name : List ℕ) (entries : List Entry) (line : List ℕ) → is_line_of name line ≡ true → IsOf name entries (heard entries line)
is_of_heard name entries line said = is_of_line name entries line (nat_le (length line) longest_line) said

module _ (name : List ℕ) (start : World) (earlier : List (List ℕ)) where
  -- the name's own state after all calls is the one after its own
  state_alike : (component : ℕ) → component_of start.entries name ≡ Some component →
      state_at (world_running start earlier).states component ≡ state_at (after_all (Some name) start earlier).states component
  state_alike component is =
      states_running-at start.entries start.states earlier component ∙ state_stands_alone start.entries start.states name earlier component is
      ∙ sym (states_running-at start.entries start.states (said_by (Some name) earlier) component)

  -- so it is answered the same
  reply_alike : (what : Heard) → IsOf name start.entries what → answered_reply (world_running start earlier) what ≡ answered_reply (after_all (Some name) start earlier) what
  reply_alike NoCall is = refl
  reply_alike (Stranger other) is = refl
  reply_alike (Caller made) is = ap (λ s. (own_step (entry_at start.entries made.component) made.call s).reply) (state_alike made.component is)

  lines_alike : (what : Heard) → IsOf name start.entries what → finished_lines (world_running start earlier) what ≡ finished_lines (after_all (Some name) start earlier) what
  lines_alike NoCall is = refl
  lines_alike (Stranger other) is = refl
  lines_alike (Caller made) is = ap (λ s. (own_step (entry_at start.entries made.component) made.call s).lines) (state_alike made.component is)

  name_alike : (what : Heard) → answered_name (world_running start earlier) what ≡ answered_name (after_all (Some name) start earlier) what
  name_alike NoCall = refl
  name_alike (Stranger other) = refl
  name_alike (Caller made) = refl

  -- and told the same
  now_alike : (what : Heard) → IsOf name start.entries what →
      told_now start.entries (world_running start earlier).states what ≡ told_now start.entries (after_all (Some name) start earlier).states what
  now_alike NoCall is = refl
  now_alike (Stranger other) is = refl
  now_alike (Caller made) is = ap (λ s. outcome_text (entry_at start.entries made.component).name (own_step (entry_at start.entries made.component) made.call s)) (state_alike made.component is)

  told_alike : (call : List ℕ) → is_line_of name call ≡ true → told_in (world_running start earlier) call ≡ told_in (after_all (Some name) start earlier) call
  told_alike call said = ap (λ text. text ++ []) (now_alike (heard start.entries call) (is_of_heard name start.entries call said))

  module _ (call : List ℕ) (whole alone : LineAnswer) (said : is_line_of name call ≡ true) (in_whole : IsAnswer (world_running start earlier) (heard start.entries call) whole)
      (in_alone : IsAnswer (after_all (Some name) start earlier) (heard start.entries call) alone) where
    pub same_lines : alone.lines.now ≡ whole.lines.now
    same_lines = in_alone.lines ∙ ap (flat_map log_text) (sym (lines_alike (heard start.entries call) (is_of_heard name start.entries call said))) ∙ sym in_whole.lines

    pub same_name : alone.name.now ≡ whole.name.now
    same_name = in_alone.name ∙ sym (name_alike (heard start.entries call)) ∙ sym in_whole.name

    pub same_reply : alone.reply.now ≡ whole.reply.now
    same_reply = in_alone.reply ∙ ap reply_text (sym (reply_alike (heard start.entries call) (is_of_heard name start.entries call said))) ∙ sym in_whole.reply

-- ---- a call more

not_said : (name line : List ℕ) (b : Bool) → is_line_of name line ≡ b → said_by (Some name) (line ∷ []) ≡ [] → b ≡ false
not_said name line false is none = refl
not_said name line true is none = let some : line ∷ [] ≡ [] = sym (said_one name line true is) ∙ none in absurd (cc)

pub is_said : (name line : List ℕ) (b : Bool) → is_line_of name line ≡ b → said_by (Some name) (line ∷ []) ≡ line ∷ [] → b ≡ true
is_said name line true is some = refl
is_said name line false is some = let none : [] ≡ line ∷ [] = sym (said_one name line false is) ∙ some in absurd (cc)

-- of another's call nothing is told
pub told_none_of : (name : List ℕ) (start : World) (earlier : List (List ℕ)) (number : ℕ) (call : List ℕ) → said_by (Some name) (call ∷ []) ≡ [] → [] ≡ alone_call_text name start earlier number call
told_none_of name start earlier number call none = rw (not_said name call (is_line_of name call) refl none) refl

-- of the name's both answers
pub told_both_of : (name : List ℕ) (start core : World) (earlier : List (List ℕ)) (number : ℕ) (call : List ℕ) (whole alone : LineAnswer) → core ≡ after_all (Some name) start earlier →
    IsAnswer (world_running start earlier) (heard start.entries call) whole → AnswersLine (Some name) core call (Some alone) →
    (decimal number ++ codes ": " ++ map printed call ++ option_map_or in_brackets (line_text call) [] ++ 10 ∷ []) ++ (codes "  whole: " ++ answer_text (Some whole)) ++ (codes "  alone: " ++ answer_text (Some alone)) ≡ alone_call_text name start earlier number call
told_both_of name start core earlier number call whole alone leads in_whole in_alone =
    let here : IsAnswer (after_all (Some name) start earlier) (heard start.entries call) alone = subst (λ (w : World). IsAnswer w (heard w.entries call) alone) leads in_alone.1 in
    rw (
      is_said name call (is_line_of name call) refl in_alone.0,
      told_answer None (world_running start earlier) call (Some whole) (refl, in_whole),
      told_answer None (after_all (Some name) start earlier) call (Some alone) (refl, here),
    ) refl

-- the second machine has seen one call more
pub sees_more : {name : List ℕ} {core : World} {lines : ℕ} {difference : Option ℕ} {start : World} {earlier : List (List ℕ)} (core' : World) (lines' : ℕ) (difference' : Option ℕ) (call : List ℕ) (n : ℕ) →
    SeesAlone name core lines difference start earlier → core' ≡ after_all (Some name) core (call ∷ []) → length (said_by (Some name) (call ∷ [])) ≡ n →
    (lines + n < 2 ^ 64 → lines' ≡ lines + n) → difference' ≡ difference → SeesAlone name core' lines' difference' start (earlier ++ call ∷ [])
sees_more {name = name} {core = core} {lines = lines} {start = start} {earlier = earlier} core' lines' difference' call n sees left one counts same =
    let all : length (said_by (Some name) (earlier ++ call ∷ [])) ≡ length (said_by (Some name) earlier) + n =
    ap length (said_by-append (Some name) earlier (call ∷ [])) ∙ length-append (said_by (Some name) earlier) (said_by (Some name) (call ∷ [])) ∙ ap (λ k. length (said_by (Some name) earlier) + k) one in
    record {
      leads = left_by_both (Some name) start core core' earlier (call ∷ []) sees.leads left;
      counted = λ few.
          let was : lines ≡ length (said_by (Some name) earlier) = sees.counted (omega (arith, few, all)) in
          let fits : lines + n < 2 ^ 64 = subst (λ k. k + n < 2 ^ 64) (sym was) (subst (λ k. k < 2 ^ 64) all few) in
          counts fits ∙ ap (λ k. k + n) was ∙ sym all;
      alike = same ∙ sees.alike;
    }

-- and answered it the same
pub answered_alike : (name : List ℕ) {core : World} (start : World) (earlier : List (List ℕ)) (call : List ℕ) (whole alone : LineAnswer) → core ≡ after_all (Some name) start earlier →
    IsAnswer (world_running start earlier) (heard start.entries call) whole → AnswersLine (Some name) core call (Some alone) →
    (alone.lines.now ≡ whole.lines.now) × (alone.name.now ≡ whole.name.now) × (alone.reply.now ≡ whole.reply.now)
answered_alike name {core = core} start earlier call whole alone leads in_whole in_alone =
    let said = is_said name call (is_line_of name call) refl in_alone.0 in
    let here : IsAnswer (after_all (Some name) start earlier) (heard start.entries call) alone = subst (λ (w : World). IsAnswer w (heard w.entries call) alone) leads in_alone.1 in
    (same_lines name start earlier call whole alone said in_whole here, same_name name start earlier call whole alone said in_whole here, same_reply name start earlier call whole alone said in_whole here)

-- which is the law
pub are_alike : (name : List ℕ) → AreAlike name
are_alike name = record {
  calls = told_alike name;
  columns = λ start steps. pieces_stand_alone start.entries start.states name (calls_of_steps steps);
}
