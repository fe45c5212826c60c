-- The request of a word of a declared server is that of its form.
use Rattle.std.proofs.Common.{◌≡◌, ℕ, ◌≤◌, true, false, cond, List, [], ◌∷◌, length, Option, Some, None, refl, sym, ap, ◌∙◌, nat_le, codes, arith}
use Rattle.std.specs.Prelude.{find}
use Rattle.std.specs.Option.{option_and_then, option_map, option_or}
use Rattle.std.specs.Str.{bytes_eq}
use Rattle.std.proofs.lemmas.Bool.Decides.{nat_tests}
use Rattle.std.proofs.lemmas.Option.{none-some, same_Some}
use Rattle.std.proofs.lemmas.Slice.Eq.{bytes_eq-Decides}
use Rattle.trade_base.specs.Amount.{number_of}
use Rattle.own_model.specs.BufferService.{BufferRequest, after_number, move_of, buffer_request_of}
use Rattle.own_model.specs.BufferService.BufferRequest.{Make as MakeBuffer, Put, Get}
use Rattle.own_model.specs.FileText.{file_word, of_file}
use Rattle.own_model.specs.LogText.{longest_request}
use Rattle.own_model.specs.ObjectSession.{HoldingRequest, of_buffer_alone, holding_request}
use Rattle.own_model.specs.ObjectSession.HoldingRequest.{OfObjects, OfBuffer}
use Rattle.own_model.specs.ObjectText.{object_request_of}
use Rattle.own_model.specs.Text.{first_word}
use Rattle.session_proto.proofs.FormLemmas.{or_none}
use Rattle.session_proto.specs.ObjectForms.{form_named, forms, made_of, word_of}
use Rattle.session_proto.specs.declared.object_form.ObjectForm.{ObjectForm}
use Rattle.session_proto.specs.declared.object_form.ObjectForm.TheVariants.{Make, Resize, Drop, Count, Name, Stat, Buffer, Unbuffer}

-- the request of a word, of the objects or of the buffer
abbrev made_by : List ℕ → Option (List ℕ) → Option HoldingRequest
made_by word arguments = option_or (option_map OfObjects (object_request_of word arguments)) (option_map OfBuffer (option_and_then of_buffer_alone (buffer_request_of word arguments)))

-- a buffer of so many bytes is of the buffer alone
makes_alone : (o : Option ℕ) → option_map OfBuffer (option_map MakeBuffer o) ≡ option_map OfBuffer (option_and_then of_buffer_alone (option_map MakeBuffer o))
makes_alone None = refl
makes_alone (Some n) = refl

-- ---- no request that moves bytes is

none_then : {X : Type 0} (request : X → Option BufferRequest) → ((x : X) → option_and_then of_buffer_alone (request x) ≡ None) → (o : Option X) → option_and_then of_buffer_alone (option_and_then request o) ≡ None
none_then request none None = refl
none_then request none (Some x) = none x

none_map : {X : Type 0} (request : X → BufferRequest) → ((x : X) → of_buffer_alone (request x) ≡ None) → (o : Option X) → option_and_then of_buffer_alone (option_map request o) ≡ None
none_map request none None = refl
none_map request none (Some x) = none x

none_after : (request : ℕ → List ℕ → Option BufferRequest) → ((n : ℕ) (rest : List ℕ) → option_and_then of_buffer_alone (request n rest) ≡ None) → (arguments : List ℕ) →
    option_and_then of_buffer_alone (after_number request arguments) ≡ None
none_after request none arguments =
    none_then (λ n. option_and_then (request n) (first_word arguments).rest) (λ n. none_then (request n) (none n) (first_word arguments).rest) (number_of (first_word arguments).word)

module _ (move : List ℕ → ℕ → ℕ → ℕ → BufferRequest) (moves : (file : List ℕ) (offset place len : ℕ) → of_buffer_alone (move file offset place len) ≡ None) where
  none_moved : (file arguments : List ℕ) → option_and_then of_buffer_alone (move_of move file arguments) ≡ None
  none_moved file arguments =
      none_after (λ offset. after_number (λ place len. option_map (move file offset place) (number_of len)))
      (λ offset. none_after (λ place len. option_map (move file offset place) (number_of len)) (λ place len. none_map (move file offset place) (moves file offset place) (number_of len))) arguments

  none_of_file : (arguments : List ℕ) → option_and_then of_buffer_alone (of_file (move_of move) arguments) ≡ None
  none_of_file arguments =
      none_then (λ file. option_and_then (move_of move file) (first_word arguments).rest)
      (λ file. none_then (move_of move file) (none_moved file) (first_word arguments).rest) (file_word (first_word arguments).word)

  none_of_move : (arguments : Option (List ℕ)) → option_and_then of_buffer_alone (option_and_then (of_file (move_of move)) arguments) ≡ None
  none_of_move arguments = none_then (of_file (move_of move)) none_of_file arguments

-- a word that is neither the one of a new buffer nor the one of its end
others_none : (word : List ℕ) (arguments : Option (List ℕ)) (put get : Option BufferRequest) → option_and_then of_buffer_alone put ≡ None → option_and_then of_buffer_alone get ≡ None →
    None ≡ option_map OfBuffer (option_and_then of_buffer_alone (cond (bytes_eq word (codes "PUT")) put (cond (bytes_eq word (codes "GET")) get None)))
others_none word arguments put get no_put no_get =
    elim (bytes_eq word (codes "PUT")) as (λ b. None ≡ option_map OfBuffer (option_and_then of_buffer_alone (cond b put (cond (bytes_eq word (codes "GET")) get None)))) [
      | true ↦ sym (ap (option_map OfBuffer) no_put)
      | false ↦ elim (bytes_eq word (codes "GET")) as (λ b. None ≡ option_map OfBuffer (option_and_then of_buffer_alone (cond b get None))) [
        | true ↦ sym (ap (option_map OfBuffer) no_get)
        | false ↦ refl
      ]
    ]

-- ---- forms and words

-- a form makes the requests of its word
made_of_word : (form : ObjectForm) (arguments : Option (List ℕ)) → made_of form arguments ≡ made_by (word_of form) arguments
made_of_word Make arguments = or_none _
made_of_word Resize arguments = or_none _
made_of_word Drop arguments = or_none _
made_of_word Count arguments = or_none _
made_of_word Name arguments = or_none _
made_of_word Stat None = refl
made_of_word Stat (Some text) = refl
made_of_word Buffer arguments = makes_alone (option_and_then number_of arguments)
made_of_word Unbuffer None = refl
made_of_word Unbuffer (Some text) = refl

module _ (word : List ℕ) where
  -- a form that is found has the word
  found : (among : List ObjectForm) (form : ObjectForm) → find (λ f. bytes_eq word (word_of f)) among ≡ Some form → word ≡ word_of form
  found [] form is = absurd (none-some form is)
  found (f ∷ rest) form is =
      elim (bytes_eq word (word_of f)) as (λ b. (b ≡ true → word ≡ word_of f) → cond b (Some f) (find (λ f. bytes_eq word (word_of f)) rest) ≡ Some form → word ≡ word_of form) [
        | true ↦ λ same is. same refl ∙ ap word_of (same_Some f form is)
        | false ↦ λ _ is. found rest form is
      ] (bytes_eq-Decides word (word_of f)).0 is

  -- where none is found, none has it
  abbrev Missed : List ObjectForm → Type 0
  Missed [] = Unit {0}
  Missed (f ∷ rest) = (bytes_eq word (word_of f) ≡ false) × Missed rest

  missed : (among : List ObjectForm) → find (λ f. bytes_eq word (word_of f)) among ≡ None → Missed among
  missed [] is = tt
  missed (f ∷ rest) is =
      elim (bytes_eq word (word_of f)) as (λ b. cond b (Some f) (find (λ f. bytes_eq word (word_of f)) rest) ≡ None → (b ≡ false) × Missed rest) [
        | true ↦ λ is. absurd (none-some f (sym is))
        | false ↦ λ is. (refl, missed rest is)
      ] is

  -- so a word makes the request of its form, if it has one
  made_by_word : (arguments : Option (List ℕ)) (form : Option ObjectForm) → form ≡ form_named word → option_and_then (λ form. made_of form arguments) form ≡ made_by word arguments
  made_by_word arguments (Some form) named = made_of_word form arguments ∙ ap (λ w. made_by w arguments) (sym (found forms form (sym named)))
  made_by_word arguments None named =
      let m = missed forms (sym named) in
      rw (m.0, m.1.0, m.1.1.0, m.1.1.1.0, m.1.1.1.1.0, m.1.1.1.1.1.0, m.1.1.1.1.1.1.0, m.1.1.1.1.1.1.1.0)
      (others_none word arguments (option_and_then (of_file (move_of Put)) arguments) (option_and_then (of_file (move_of Get)) arguments) (none_of_move Put (λ file offset place len. refl) arguments) (none_of_move Get (λ file offset place len. refl) arguments))

-- and a text that isn't too long that of its word
pub made_by_form : (text : List ℕ) (form : Option ObjectForm) → length text ≤ longest_request → form ≡ form_named (first_word text).word →
    option_and_then (λ form. made_of form (first_word text).rest) form ≡ holding_request text
made_by_form text form short named =
    let is_short : nat_le (length text) longest_request ≡ true = grind (arith, nat_tests) in
    rw is_short (made_by_word (first_word text).word (first_word text).rest form named)
