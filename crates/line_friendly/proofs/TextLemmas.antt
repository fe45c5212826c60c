-- The line of a call that is neither a poke nor a request of a session has nothing that is translated behind its first words.
use Rattle.std.proofs.Common.{◌≡◌, ◌||◌, ℕ, Bool, true, false, true≢false, cond, List, [], ◌∷◌, ◌++◌, is_some, codes, Option, Some, None, refl, sym, ap, ◌∙◌, subst}
use Rattle.std.specs.Option.{option_and_then, option_map, option_map_or, unwrap_or}
use Rattle.std.specs.Str.{bytes_eq}
use Rattle.std.proofs.lemmas.Option.{none-some}
use Rattle.std.proofs.lemmas.Slice.Eq.{bytes_eq-Decides}
use Rattle.own_model.specs.Call.{Call, Spoken, call_of, forms, of_text, of_two, some_bytes_of_hex, parsed_call}
use Rattle.own_model.specs.Call.Call.{CallSession, Poke}
use Rattle.own_model.specs.Text.{address_of, first_word, number_of}
use Rattle.line_grammar.specs.Read.{Reads, model_call}
use Rattle.line_grammar.specs.declared.line.NamedCall.{NamedCall}
use Rattle.line_friendly.specs.Handed.{has_text}
use Rattle.line_friendly.specs.Theorems.{is_translated}
use Rattle.line_friendly.specs.CallParts.{parts_of, tail_of, takes_text, word_behind}
use Rattle.line_friendly.specs.CallParts.CallTail.{Words, Kept, Sized}
use Rattle.line_friendly.proofs.PlainLemmas.{IsForm, SaysCall, behind_word, form_in, forms_let, is_path_word, is_word, next_is, says_call, word_and_behind}

-- what one of two words makes is a call with a text
made_text : {X : Type 0} (make : X → Call) (read : Option X) (call : Call) → ((x : X) → has_text (make x) ≡ true) → option_map make read ≡ Some call → has_text call ≡ true
made_text make None call texts is = absurd (none-some call is)
made_text make (Some x) call texts is = ap (λ made. option_map_or has_text made true) (sym is) ∙ texts x

requested : (arguments : Option (List ℕ)) (call : Call) → of_text CallSession number_of arguments ≡ Some call → has_text call ≡ true
requested None call is = absurd (none-some call is)
requested (Some text) call is =
    made_text (λ x. CallSession x (unwrap_or (first_word text).rest [])) (number_of (first_word text).word) call (λ x. refl) is

poked : (arguments : Option (List ℕ)) (call : Call) → of_two Poke address_of some_bytes_of_hex arguments ≡ Some call → has_text call ≡ true
poked None call is = absurd (none-some call is)
poked (Some text) call is =
    elim (address_of (first_word text).word) as (λ a. option_and_then (λ x. option_map (Poke x) (option_and_then some_bytes_of_hex (first_word text).rest)) a ≡ Some call → has_text call ≡ true) [
      | None ↦ λ none. absurd (none-some call none)
      | Some a ↦ λ some. made_text (Poke a) (option_and_then some_bytes_of_hex (first_word text).rest) call (λ x. refl) some
    ] is

-- so a call without one has neither form
other_form : (word form : List ℕ) (arguments : Option (List ℕ)) (call : Call) → call_of form arguments ≡ Some call → has_text call ≡ false →
    (call_of word arguments ≡ Some call → has_text call ≡ true) → bytes_eq form word ≡ false
other_form word form arguments call is none texts =
    elim (bytes_eq form word) as (λ t. bytes_eq form word ≡ t → t ≡ false) [
      | true ↦ λ same. absurd (true≢false (sym (texts (subst (λ f. call_of f arguments ≡ Some call) ((bytes_eq-Decides form word).0 same) is)) ∙ none))
      | false ↦ λ other. refl
    ] refl

-- and nothing that is translated
no_text : (form rest : List ℕ) → bytes_eq form (codes "call") ≡ false → bytes_eq form (codes "poke") ≡ false → is_translated (tail_of form rest) ≡ false
no_text form rest no_call no_poke =
    rw (no_call, no_poke) (
    elim (takes_text form || (bytes_eq form (codes "open") || bytes_eq form (codes "upgrade"))) as (λ t. is_translated (cond t (Kept rest) (cond (bytes_eq form (codes "peek")) (Sized rest) (Words rest))) ≡ false) [
      | true ↦ refl
      | false ↦ elim (bytes_eq form (codes "peek")) as (λ t. is_translated (cond t (Sized rest) (Words rest)) ≡ false) [
        | true ↦ refl
        | false ↦ refl
      ]
    ]
    )

in_words : (name form : List ℕ) (arguments : Option (List ℕ)) → is_word name ≡ true → is_word form ≡ true → bytes_eq form (codes "call") ≡ false → bytes_eq form (codes "poke") ≡ false
    → is_translated (parts_of (name ++ behind_word (Some (form ++ behind_word arguments)))).tail ≡ false
in_words name form arguments named formed no_call no_poke =
    rw (next_is name (Some (form ++ behind_word arguments)) named, next_is form arguments formed) (no_text form (word_behind form (behind_word arguments)).rest no_call no_poke)

-- what a line says that says a call
spoken_is : (line : List ℕ) (says : SaysCall line) → parsed_call line ≡ Some (record { name = (first_word line).word; call = says.call })
spoken_is line says = rw (says.named, says.behind, says.says) refl

untranslated_line : (line : List ℕ) (says : SaysCall line) → has_text says.call ≡ false → is_translated (parts_of line).tail ≡ false
untranslated_line line says none =
    let name : List ℕ = (first_word line).word in
    let form : List ℕ = (first_word says.text).word in
    let arguments : Option (List ℕ) = (first_word says.text).rest in
    let whole : line ≡ name ++ behind_word (Some (form ++ behind_word arguments)) =
    word_and_behind line ∙ ap (λ r. name ++ behind_word r) says.behind ∙ ap (λ t. name ++ 32 ∷ t) (word_and_behind says.text) in
    let known : IsForm form arguments = form_in forms forms_let form arguments says.call says.says in
    subst (λ l. is_translated (parts_of l).tail ≡ false) (sym whole)
    (in_words name form arguments (is_path_word name says.named) known.word_is
    (other_form (codes "call") form arguments says.call says.says none (requested arguments says.call))
    (other_form (codes "poke") form arguments says.call says.says none (poked arguments says.call)))

pub untranslated : (line : List ℕ) (said : NamedCall) → Reads line said → has_text (model_call said.call) ≡ false → is_translated (parts_of line).tail ≡ false
untranslated line said reads none =
    let says : SaysCall line = says_call line (ap is_some reads.says) in
    let same : says.call ≡ model_call said.call = ap (λ o. option_map_or (λ (s : Spoken). s.call) o says.call) (sym (spoken_is line says) ∙ reads.says) in
    untranslated_line line says (ap has_text same ∙ none)
