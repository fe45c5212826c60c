-- The request of a word is that of its form.
use Rattle.std.proofs.Common.{◌≡◌, ℕ, ◌≤◌, true, false, cond, List, [], ◌∷◌, length, Option, Some, None, refl, sym, ap, ◌∙◌, nat_le, arith}
use Rattle.std.specs.Prelude.{find}
use Rattle.std.specs.Option.{option_and_then, option_map, option_or}
use Rattle.std.specs.Str.{bytes_eq}
use Rattle.std.proofs.lemmas.Bool.Decides.{nat_tests}
use Rattle.std.proofs.lemmas.Option.{none-some, same_Some}
use Rattle.std.proofs.lemmas.Slice.Eq.{bytes_eq-Decides}
use Rattle.own_model.specs.BufferService.{SessionRequest, buffer_request_of, session_request}
use Rattle.own_model.specs.BufferService.SessionRequest.{OfFiles, OfBuffer}
use Rattle.own_model.specs.FileText.{request_of}
use Rattle.own_model.specs.LogText.{longest_request}
use Rattle.own_model.specs.Text.{first_word}
use Rattle.session_proto.specs.Forms.{form_named, forms, made_of, word_of}
use Rattle.session_proto.specs.declared.form.FileForm.{FileForm}
use Rattle.session_proto.specs.declared.form.FileForm.TheVariants.{Create, Write, Read, Size, Clear, Drop, Name, Stat, Buffer, Unbuffer, Put, Get}

-- the request of a word, of the files or of the buffer
abbrev made_by : List ℕ → Option (List ℕ) → Option SessionRequest
made_by word arguments = option_or (option_map OfFiles (request_of word arguments)) (option_map OfBuffer (buffer_request_of word arguments))

pub or_none : {X : Type 0} (o : Option X) → o ≡ option_or o None
or_none None = refl
or_none (Some x) = refl

-- a form makes the requests of its word
made_of_word : (form : FileForm) (arguments : Option (List ℕ)) → made_of form arguments ≡ made_by (word_of form) arguments
made_of_word Create arguments = or_none _
made_of_word Write arguments = or_none _
made_of_word Read arguments = or_none _
made_of_word Size arguments = or_none _
made_of_word Clear arguments = or_none _
made_of_word Drop arguments = or_none _
made_of_word Name arguments = or_none _
made_of_word Stat None = refl
made_of_word Stat (Some text) = refl
made_of_word Buffer arguments = refl
made_of_word Unbuffer None = refl
made_of_word Unbuffer (Some text) = refl
made_of_word Put arguments = refl
made_of_word Get arguments = refl

module _ (word : List ℕ) where
  -- a form that is found has the word
  found : (among : List FileForm) (form : FileForm) → find (λ f. bytes_eq word (word_of f)) among ≡ Some form → word ≡ word_of form
  found [] form is = absurd (none-some form is)
  found (f ∷ rest) form is =
      elim (bytes_eq word (word_of f)) as (λ b. (b ≡ true → word ≡ word_of f) → cond b (Some f) (find (λ f. bytes_eq word (word_of f)) rest) ≡ Some form → word ≡ word_of form) [
        | true ↦ λ same is. same refl ∙ ap word_of (same_Some f form is)
        | false ↦ λ _ is. found rest form is
      ] (bytes_eq-Decides word (word_of f)).0 is

  -- where none is found, none has it
  abbrev Missed : List FileForm → Type 0
  Missed [] = Unit {0}
  Missed (f ∷ rest) = (bytes_eq word (word_of f) ≡ false) × Missed rest

  missed : (among : List FileForm) → find (λ f. bytes_eq word (word_of f)) among ≡ None → Missed among
  missed [] is = tt
  missed (f ∷ rest) is =
      elim (bytes_eq word (word_of f)) as (λ b. cond b (Some f) (find (λ f. bytes_eq word (word_of f)) rest) ≡ None → (b ≡ false) × Missed rest) [
        | true ↦ λ is. absurd (none-some f (sym is))
        | false ↦ λ is. (refl, missed rest is)
      ] is

  -- so a word makes the request of its form, if it has one
  made_by_word : (arguments : Option (List ℕ)) (form : Option FileForm) → form ≡ form_named word → option_and_then (λ form. made_of form arguments) form ≡ made_by word arguments
  made_by_word arguments (Some form) named = made_of_word form arguments ∙ ap (λ w. made_by w arguments) (sym (found forms form (sym named)))
  made_by_word arguments None named =
      let m = missed forms (sym named) in
      rw (m.0, m.1.0, m.1.1.0, m.1.1.1.0, m.1.1.1.1.0, m.1.1.1.1.1.0, m.1.1.1.1.1.1.0, m.1.1.1.1.1.1.1.0, m.1.1.1.1.1.1.1.1.0, m.1.1.1.1.1.1.1.1.1.0, m.1.1.1.1.1.1.1.1.1.1.0, m.1.1.1.1.1.1.1.1.1.1.1.0) refl

-- and a text that isn't too long that of its word
pub made_by_form : (text : List ℕ) (form : Option FileForm) → length text ≤ longest_request → form ≡ form_named (first_word text).word →
    option_and_then (λ form. made_of form (first_word text).rest) form ≡ session_request text
made_by_form text form short named =
    let is_short : nat_le (length text) longest_request ≡ true = grind (arith, nat_tests) in
    rw is_short (made_by_word (first_word text).word (first_word text).rest form named)
