-- The calls of a component, and the lines that make them.
use Rattle.std.specs.Prelude.{ℕ, Bool, true, false, List, [], ◌∷◌, length, nat_lt, if◌then◌else◌, Option, Some, None, is_none, codes}
use Rattle.std.specs.Option.{option_map, option_and_then, unwrap_or}
use Rattle.std.specs.Str.{bytes_eq}
use Rattle.own_model.specs.Text.{first_word, is_name, is_path, number_of, address_of, bytes_of_hex}

-- a call: one case a form. A session is opened and upgraded by the text of arguments, and called by the text of a request.
-- What is requested of the reserve or yielded to it is told by the text of arguments, of which the label is ignored
pub data Call : Type 0 where
  Alloc : ℕ → Call
  Free : ℕ → Call
  Attach : ℕ → Call
  AttachAt : ℕ → ℕ → Call
  Detach : ℕ → Call
  Peek : ℕ → ℕ → Call
  Poke : ℕ → List ℕ → Call
  Capalloc : Call
  Capfree : ℕ → Call
  New : ℕ → Call
  Del : ℕ → Call
  Snew : ℕ → Call
  Sdel : ℕ → Call
  Quota : Call
  Reserve : Call
  Request : List ℕ → Call
  Yield : List ℕ → Call
  Open : List ℕ → List ℕ → Call
  Upgrade : ℕ → List ℕ → Call
  CallSession : ℕ → List ℕ → Call
  Close : ℕ → Call
  Exit : Call

-- a call opens a session, or is of one
abbrev pub is_of_session : Call → Bool
is_of_session (Open service text) = true
is_of_session (Upgrade selector text) = true
is_of_session (CallSession selector request) = true
is_of_session (Close selector) = true
is_of_session call = false

-- a call moves limits between its caller's account and its reserve
abbrev pub moves_reserve : Call → Bool
moves_reserve (Request text) = true
moves_reserve (Yield text) = true
moves_reserve call = false

-- a call ends its caller, where that isn't turned away
abbrev pub is_exit : Call → Bool
is_exit Exit = true
is_exit call = false

-- a call, and the path of the component that makes it, by which lines name it
pub record Spoken : Type 0 where
  pub name : List ℕ
  pub call : Call

-- the bytes of hex that isn't empty
abbrev pub some_bytes_of_hex : List ℕ → Option (List ℕ)
some_bytes_of_hex text = if nat_lt 0 (length text) then bytes_of_hex text else None

-- a name, unchanged
abbrev pub name_of : List ℕ → Option (List ℕ)
name_of text = if is_name text then Some text else None

-- a form: its keyword, and the call that it makes of its arguments, the text after the keyword and a space
pub record Form : Type 0 where
  pub word : List ℕ
  pub call : Option (List ℕ) → Option Call

-- a form without arguments
abbrev pub of_none : Call → Option (List ℕ) → Option Call
of_none call arguments = if is_none arguments then Some call else None

-- of one
abbrev pub of_one : {X : Type 0} → (X → Call) → (List ℕ → Option X) → Option (List ℕ) → Option Call
of_one call only arguments = option_map call (option_and_then only arguments)

-- of two, separated by a space
abbrev pub of_two : {X Y : Type 0} → (X → Y → Call) → (List ℕ → Option X) → (List ℕ → Option Y) → Option (List ℕ) → Option Call
of_two call first second None = None
of_two call first second (Some arguments) =
    option_and_then (λ x. option_map (call x) (option_and_then second (first_word arguments).rest)) (first (first_word arguments).word)

-- of one, and then a space and a text: any bytes, or none, and the same without the space
abbrev pub of_text : {X : Type 0} → (X → List ℕ → Call) → (List ℕ → Option X) → Option (List ℕ) → Option Call
of_text call first None = None
of_text call first (Some arguments) = option_map (λ x. call x (unwrap_or (first_word arguments).rest [])) (first (first_word arguments).word)

-- of a text alone: what stands after a space, any bytes, or none, and the same without the space
abbrev pub of_rest : (List ℕ → Call) → Option (List ℕ) → Option Call
of_rest call arguments = Some (call (unwrap_or arguments []))

-- the forms
abbrev pub forms : List Form
forms =
    record { word = codes "alloc"; call = of_one Alloc number_of }
    ∷ record { word = codes "free"; call = of_one Free number_of }
    ∷ record { word = codes "attach"; call = of_one Attach number_of }
    ∷ record { word = codes "attach_at"; call = of_two AttachAt number_of address_of }
    ∷ record { word = codes "detach"; call = of_one Detach address_of }
    ∷ record { word = codes "peek"; call = of_two Peek address_of number_of }
    ∷ record { word = codes "poke"; call = of_two Poke address_of some_bytes_of_hex }
    ∷ record { word = codes "capalloc"; call = of_none Capalloc }
    ∷ record { word = codes "capfree"; call = of_one Capfree number_of }
    ∷ record { word = codes "new"; call = of_one New number_of }
    ∷ record { word = codes "del"; call = of_one Del address_of }
    ∷ record { word = codes "snew"; call = of_one Snew number_of }
    ∷ record { word = codes "sdel"; call = of_one Sdel address_of }
    ∷ record { word = codes "open"; call = of_text Open name_of }
    ∷ record { word = codes "upgrade"; call = of_text Upgrade number_of }
    ∷ record { word = codes "call"; call = of_text CallSession number_of }
    ∷ record { word = codes "close"; call = of_one Close number_of }
    ∷ record { word = codes "exit"; call = of_none Exit }
    ∷ record { word = codes "quota"; call = of_none Quota }
    ∷ record { word = codes "reserve"; call = of_none Reserve }
    ∷ record { word = codes "request"; call = of_rest Request }
    ∷ record { word = codes "yield"; call = of_rest Yield }
    ∷ []

-- the call of the form with this keyword
abbrev pub call_in : List Form → List ℕ → Option (List ℕ) → Option Call
call_in [] word arguments = None
call_in (form ∷ rest) word arguments = if bytes_eq word form.word then form.call arguments else call_in rest word arguments

abbrev pub call_of : List ℕ → Option (List ℕ) → Option Call
call_of word arguments = call_in forms word arguments

-- what follows the path: a form, and its arguments
abbrev pub form_of : List ℕ → Option Call
form_of text = call_of (first_word text).word (first_word text).rest

-- a line of the grammar: a path, a space, and a call
abbrev pub parsed_call : List ℕ → Option Spoken
parsed_call line =
    if is_path (first_word line).word
    then option_map (λ call. record { name = (first_word line).word; call = call }) (option_and_then form_of (first_word line).rest)
    else None
