-- What is told of a line, by what it says and whose lines are answered.
use Rattle.std.proofs.Common.{◌≡◌, ◌≢◌, ℕ, ◌+◌, ◌<◌, ◌≤◌, ◌&&◌, Bool, true, false, true≢false, cond, List, [], ◌∷◌, ◌++◌, length, get_or, nat_le, codes, Option, Some, None, inl, inr, refl, subst, sym, ap, ap₂, ◌∙◌, arith, append-nil, drop, length-append, take}
use Rattle.std.specs.Prelude.{nat_eq}
use Rattle.std.proofs.lemmas.Bool.Decides.{nat_tests, Decides-eqb}
use Rattle.std.proofs.Math.Seq.{take-append_seam}
use Rattle.std.proofs.lemmas.List.{get_or-append-add, take_more}
use Rattle.std.proofs.lemmas.Option.{none-some}
use Rattle.std.proofs.lemmas.Slice.Eq.{bytes_eq-Decides, starts_is}
use Rattle.std.specs.List.{position, flat_map, starts_with}
use Rattle.std.specs.Option.{option_and_then, option_map}
use Rattle.std.specs.Str.{bytes_eq}
use Rattle.own_model.specs.Call.{Call, Spoken, form_of, parsed_call}
use Rattle.own_model.specs.Text.{FirstWord, first_word, is_path}
use Rattle.trade_base.specs.declared.refusal.Refusal.TheVariants.{BadLine, UnknownComponent}
use Rattle.own_model.specs.Reply.{reply_text, log_text}
use Rattle.own_model.specs.LinesOfName.{component_of, is_line_of, is_under, said_by}
use Rattle.own_model.specs.StartList.{Entry}
use Rattle.own_model.specs.Transcript.{Heard, heard, heard_spoken, heard_call, longest_line, entry_at}
use Rattle.own_model.specs.Transcript.Heard.{NoCall, Stranger, Caller}
use Rattle.own_model.specs.World.{World, outcome_at, with_state, world_after_line, world_running}
use Rattle.run_lines.specs.Answer.{AnswersLine, IsAnswer, IsRefusal, answer_text}
use Rattle.line_grammar.specs.Read.{IsNoCall}
use Rattle.run_lines.specs.Answered.{BeginsWithName, IsNoCallOfName, after_all, hears, is_selected, output_of_lines}
use Rattle.run_lines.specs.declared.line_answer.LineAnswer.{LineAnswer}
use Rattle.own_model.specs.Running.{told_now}

-- a line that isn't too long is heard as what it says
heard_short : (entries : List Entry) (line : List ℕ) → length line ≤ longest_line → heard entries line ≡ heard_spoken entries (parsed_call line)
heard_short entries line short = grind (arith, nat_tests)

-- a line is heard so, and is answered
pub record IsAnsweredCall (only : Option (List ℕ)) (world : World) (line : List ℕ) (what : Heard) : Type 0 where
  pub said : said_by only (line ∷ []) ≡ line ∷ []
  pub is : heard world.entries line ≡ what

module _ {only : Option (List ℕ)} {world : World} {line : List ℕ} {what : Heard} (hears : IsAnsweredCall only world line what) where
  -- which world it leaves
  pub left_heard : world_after_line world what ≡ after_all only world (line ∷ [])
  left_heard = ap (world_after_line world) (sym hears.is) ∙ ap (world_running world) (sym hears.said)

  -- and which answer is one to it
  pub answered_heard : {answer : LineAnswer} → IsAnswer world what answer → AnswersLine only world line (Some answer)
  answered_heard {answer = answer} is = (hears.said, subst (λ w. IsAnswer world w answer) (sym hears.is) is)

-- a line that is skipped leaves the world
pub left_skipped : (only : Option (List ℕ)) (world : World) (line : List ℕ) → said_by only (line ∷ []) ≡ [] → world ≡ after_all only world (line ∷ [])
left_skipped only world line skipped = ap (world_running world) (sym skipped)

-- an answer to what was heard is told of it
told_heard : (world : World) (what : Heard) (answer : LineAnswer) → IsAnswer world what answer → answer_text (Some answer) ≡ told_now world.entries world.states what
told_heard world NoCall answer is = rw (is.lines, is.name, is.reply) refl
told_heard world (Stranger name) answer is = rw (is.lines, is.name, is.reply) refl
told_heard world (Caller made) answer is = rw (is.lines, is.name, is.reply) refl

-- so what is told of a line is its answer
pub told_answer : (only : Option (List ℕ)) (world : World) (line : List ℕ) (answer : Option LineAnswer) → AnswersLine only world line answer → answer_text answer ≡ output_of_lines only world (line ∷ [])
told_answer only world line None skipped = ap (output_of_lines None world) (sym skipped)
told_answer only world line (Some answer) answers =
    told_heard world (heard world.entries line) answer answers.1
    ∙ sym (append-nil (told_now world.entries world.states (heard world.entries line)))
    ∙ ap (output_of_lines None world) (sym answers.0)

-- of one line, a name's are it or none
pub said_one : (name line : List ℕ) (b : Bool) → is_line_of name line ≡ b → said_by (Some name) (line ∷ []) ≡ cond b (line ∷ []) []
said_one name line b is = ap (λ t. cond t (line ∷ []) []) is

-- whose a line is that isn't too long
said_short : (name line : List ℕ) (b : Bool) → length line ≤ longest_line → is_under name (parsed_call line) ≡ b → is_line_of name line ≡ b
said_short name line b short is = grind (arith, nat_tests)

-- a call that is meant is heard
pub heard_meant : (only : Option (List ℕ)) (world : World) (line : List ℕ) (says : Spoken) → length line ≤ longest_line → parsed_call line ≡ Some says → is_selected only says.name ≡ true →
    IsAnsweredCall only world line (hears world says)
heard_meant None world line says short is meant = record { said = refl; is = heard_short world.entries line short ∙ ap (heard_spoken world.entries) is }
heard_meant (Some name) world line says short is meant = record {
  said = said_one name line true (said_short name line true short (ap (is_under name) is ∙ meant));
  is = heard_short world.entries line short ∙ ap (heard_spoken world.entries) is;
}

-- and one that isn't is skipped
pub skipped_unmeant : (only : Option (List ℕ)) (line : List ℕ) (says : Spoken) → length line ≤ longest_line → parsed_call line ≡ Some says → is_selected only says.name ≡ false →
    said_by only (line ∷ []) ≡ []
skipped_unmeant None line says short is meant = absurd (true≢false meant)
skipped_unmeant (Some name) line says short is meant = said_one name line false (said_short name line false short (ap (is_under name) is ∙ meant))

-- as is a line that has another front
pub skipped_unsaid : (only : Option (List ℕ)) (line : List ℕ) → length line ≤ longest_line → IsNoCallOfName only line → said_by only (line ∷ []) ≡ []
skipped_unsaid None line short unsaid = absurd unsaid
skipped_unsaid (Some name) line short unsaid = said_one name line false (said_short name line false short unsaid)

-- what is no call is heard as none
heard_no_call : (entries : List Entry) (line : List ℕ) → IsNoCall line → heard entries line ≡ NoCall
heard_no_call entries line (inl long) = grind (arith, nat_tests)
heard_no_call entries line (inr none) =
    rw none (elim (nat_le (length line) longest_line) as (λ b. cond b NoCall NoCall ≡ NoCall) [ true ↦ refl | false ↦ refl ])

-- and is no name's
said_no_call : (name line : List ℕ) → IsNoCall line → is_line_of name line ≡ false
said_no_call name line (inl long) = grind (arith, nat_tests)
said_no_call name line (inr none) =
    rw none (elim (nat_le (length line) longest_line) as (λ b. (b && false) ≡ false) [ true ↦ refl | false ↦ refl ])

-- so it changes nothing
pub left_no_call : (only : Option (List ℕ)) (world : World) (line : List ℕ) → IsNoCall line → world ≡ after_all only world (line ∷ [])
left_no_call None world line none = ap (world_after_line world) (sym (heard_no_call world.entries line none))
left_no_call (Some name) world line none = left_skipped (Some name) world line (said_one name line false (said_no_call name line none))

-- it is answered as bad, where all lines are answered
pub answered_no_call : (world : World) (line : List ℕ) (answer : LineAnswer) → IsNoCall line → IsRefusal (codes "?") BadLine answer → AnswersLine None world line (Some answer)
answered_no_call world line answer none is =
    (refl, subst (λ w. IsAnswer world w answer) (sym (heard_no_call world.entries line none)) (record { name = is.named; reply = is.reply; lines = is.lines }))

-- and skipped, where a name's alone are
pub skipped_no_call : (name line : List ℕ) → IsNoCall line → said_by (Some name) (line ∷ []) ≡ []
skipped_no_call name line none = said_one name line false (said_no_call name line none)

-- ---- the front of a line

-- a first word is followed by a space
word_before : (text rest : List ℕ) → (first_word text).rest ≡ Some rest → text ≡ (first_word text).word ++ 32 ∷ rest
word_before [] rest is = absurd (none-some rest is)
word_before (b ∷ bs) rest is =
    let here : FirstWord = record { word = []; rest = Some bs } in
    let later : FirstWord = record { word = b ∷ (first_word bs).word; rest = (first_word bs).rest } in
    elim (nat_eq b 32) as (λ t. nat_eq b 32 ≡ t → (cond t here later).rest ≡ Some rest → b ∷ bs ≡ (cond t here later).word ++ 32 ∷ rest) [
      | true ↦ λ space ends.
          let first : b ≡ 32 = grind (arith, nat_tests) in
          let then : bs ≡ rest = cc in
          rw (first, then) refl
      | false ↦ λ other ends. ap (λ l. b ∷ l) (word_before bs rest ends)
    ] refl is

module _ (name : List ℕ) where
  -- what is said under a name has it as its first word
  under_call : (word : List ℕ) (found : Option Call) → is_under name (option_map (λ call. record { name = word; call = call }) found) ≡ true → word ≡ name
  under_call word None is = absurd (true≢false (sym is))
  under_call word (Some call) is = (bytes_eq-Decides word name).0 is

  under_word : (named : Bool) (word : List ℕ) (rest : Option (List ℕ)) →
      is_under name (cond named (option_map (λ call. record { name = word; call = call }) (option_and_then form_of rest)) None) ≡ true →
      (after : List ℕ) × (rest ≡ Some after) × (word ≡ name)
  under_word false word rest is = absurd (true≢false (sym is))
  under_word true word None is = absurd (true≢false (sym is))
  under_word true word (Some after) is = (after, refl, under_call word (form_of after) is)

  -- so the line begins with the name and a space
  not_under : (line : List ℕ) → ((after : List ℕ) → line ≡ name ++ 32 ∷ after → ⊥) → is_under name (parsed_call line) ≡ false
  not_under line none = elim (is_under name (parsed_call line)) as (λ b. is_under name (parsed_call line) ≡ b → b ≡ false) [
    | true ↦ λ is.
        let parts = under_word (is_path (first_word line).word) (first_word line).word (first_word line).rest is in
        absurd (none parts.0 (word_before line parts.0 parts.1 ∙ ap (λ word. word ++ 32 ∷ parts.0) parts.2))
    | false ↦ λ is. refl
  ] refl

  -- a line that is no longer isn't said under it
  pub short_front : (line : List ℕ) → length line ≤ length name → is_under name (parsed_call line) ≡ false
  short_front line short = not_under line (λ after is. omega (arith, short, ap length is, length-append name (32 ∷ after)))

  -- nor one with another byte behind it
  pub other_byte : (line : List ℕ) (b : ℕ) → get_or line (length name) 0 ≡ b → b ≢ 32 → is_under name (parsed_call line) ≡ false
  other_byte line b at other =
      not_under line (λ after is.
      let here : get_or (name ++ 32 ∷ after) (length name + 0) 0 ≡ 32 = get_or-append-add name (32 ∷ after) 0 0 in
      let place : length name + 0 ≡ length name = omega arith in
      other (sym at ∙ ap (λ l. get_or l (length name) 0) is ∙ ap (λ k. get_or (name ++ 32 ∷ after) k 0) (sym place) ∙ here))

  -- nor one with another front
  pub other_front : (line : List ℕ) → starts_with nat_eq line name ≡ false → is_under name (parsed_call line) ≡ false
  other_front line none = not_under line (λ after is. true≢false (sym ((starts_is Decides-eqb line name _ refl).1 (32 ∷ after) is) ∙ none))

  -- the first bytes of one that may be said under it
  pub name_in_front : (line : List ℕ) → length name < length line → get_or line (length name) 0 ≡ 32 → starts_with nat_eq line name ≡ true → BeginsWithName name line
  name_in_front line longer space front =
      take_more line (length name) 0 longer
      ∙ ap₂ (λ first b. first ++ b ∷ [])
      (ap (take (length name)) ((starts_is Decides-eqb line name _ refl).0 front) ∙ take-append_seam name (drop (length name) line)) space

-- ---- what a call is answered

module _ (world : World) (name : List ℕ) (call : Call) (entries : List Entry) (same : world.entries ≡ entries) where
  -- by whom it is heard
  hears_by : (found : Option ℕ) → position (λ entry. bytes_eq entry.name name) entries ≡ found →
      hears world (record { name = name; call = call }) ≡ heard_call entries (record { name = name; call = call }) found
  hears_by found finds =
      ap (λ es. heard_call es (record { name = name; call = call }) (component_of es name)) same
      ∙ ap (heard_call entries (record { name = name; call = call })) finds

  module _ (found : Option ℕ) (finds : position (λ entry. bytes_eq entry.name name) entries ≡ found)
      (nobody : heard_call entries (record { name = name; call = call }) found ≡ Stranger name) where
    -- where the name calls nobody it is refused
    pub answered_stranger : (answer : LineAnswer) → IsRefusal name UnknownComponent answer → IsAnswer world (hears world (record { name = name; call = call })) answer
    answered_stranger answer is =
        subst (λ w. IsAnswer world w answer) (sym (hears_by found finds ∙ nobody)) (record { name = is.named; reply = is.reply; lines = is.lines })

    -- and changes nothing
    pub left_by_stranger : world ≡ world_after_line world (hears world (record { name = name; call = call }))
    left_by_stranger = ap (world_after_line world) (sym (hears_by found finds ∙ nobody))

  module _ (component : ℕ) (found : position (λ entry. bytes_eq entry.name name) entries ≡ Some component)
      (called : heard_call entries (record { name = name; call = call }) (Some component) ≡ Caller (record { component = component; call = call })) where
    -- a call changes the state of the component of its name
    pub left_by_call : with_state world component (outcome_at world component call).next ≡ world_after_line world (hears world (record { name = name; call = call }))
    left_by_call = ap (world_after_line world) (sym (hears_by (Some component) found ∙ called))

    -- and is answered with its reply, and the lines that it finishes
    pub answered_call : (answer : LineAnswer) → answer.name.now ≡ (entry_at entries component).name
        → answer.reply.now ≡ reply_text (outcome_at world component call).reply
        → answer.lines.now ≡ flat_map log_text (outcome_at world component call).lines
        → IsAnswer world (hears world (record { name = name; call = call })) answer
    answered_call answer names replies finishes =
        let e : entry_at entries component ≡ entry_at world.entries component = ap (λ es. entry_at es component) (sym same) in
        subst (λ w. IsAnswer world w answer) (sym (hears_by (Some component) found ∙ called))
        (record { name = names ∙ ap (λ entry. entry.name) e; reply = replies; lines = finishes })

-- what keeps a line from being said under a name
pub ruleset fronts = (short_front, other_byte, other_front, name_in_front)
