-- A text of JSON in which some members have other values.
use Rattle.std.specs.Prelude.{ℕ, ◌+◌, ◌-◌, ◌||◌, ◌&&◌, ◌==◌, Bool, true, false, List, [], ◌∷◌, ◌++◌, length, take, min, unwrap_or, if◌then◌else◌, Option, Some, None}
use Rattle.std.specs.List.{slice_get}
use Rattle.std.specs.Option.{option_and_then, option_map_or}
use Rattle.std.specs.Str.{bytes_eq, is_utf8}
use Rattle.serde_json.specs.Find.{as_str}
use Rattle.serde_json.specs.Read.{read}
use Rattle.budget_least.specs.declared.member_values.Quote.{Quote}
use Rattle.budget_least.specs.declared.member_values.Quote.TheVariants.{Outside, Inside, Escaped}

-- ---- the parts of a text

-- a byte between values, or a name, a text or a number
pub data Part : Type 0 where
  Between : ℕ → Part
  Scalar : List ℕ → Part

-- a byte outside of quotes is part of no value: a brace, a bracket, a comma, a colon, a blank, a tab, or the end of a line
abbrev pub is_between : ℕ → Bool
is_between b = b == 123 || b == 125 || b == 91 || b == 93 || b == 44 || b == 58 || b == 32 || b == 9 || b == 10 || b == 13

-- where the next byte is, in quotes or not: a quote is 34, a backslash 92
abbrev pub quote_after : Quote → ℕ → Quote
quote_after Outside b = if b == 34 then Inside else Outside
quote_after Inside b = if b == 92 then Escaped else (if b == 34 then Outside else Inside)
quote_after Escaped b = Inside

abbrev pub ends : Quote → ℕ → Bool
ends Outside b = is_between b
ends Inside b = false
ends Escaped b = false

abbrev pub scalar_part : List ℕ → List Part
scalar_part [] = []
scalar_part (b ∷ bytes) = Scalar (b ∷ bytes) ∷ []

-- the parts of the rest of a text, after the first bytes of a name, a text or a number
abbrev pub parts_from : Quote → List ℕ → List ℕ → List Part
parts_from quote bytes [] = scalar_part bytes
parts_from quote bytes (b ∷ rest) =
    if ends quote b
    then scalar_part bytes ++ Between b ∷ parts_from Outside [] rest
    else parts_from (quote_after quote b) (bytes ++ b ∷ []) rest

abbrev pub parts_of : List ℕ → List Part
parts_of text = parts_from Outside [] text

-- ---- the arrays and objects around a part, the innermost last

-- an array at the place of an element, or an object at the member of a name, or before a name
pub data Around : Type 0 where
  InArray : ℕ → Around
  InObject : Option (List ℕ) → Around

abbrev pub innermost : List Around → Option Around
innermost arounds = slice_get arounds (length arounds - 1)

abbrev pub outer : List Around → List Around
outer arounds = take (length arounds - 1) arounds

-- another innermost one
abbrev pub replaced : List Around → Around → List Around
replaced arounds around = option_map_or (λ old. outer arounds ++ around ∷ []) (innermost arounds) arounds

-- after a comma: the next element, or the next name. There are at most 2 ^ 64 - 1 elements
abbrev pub next_of : Option Around → Around
next_of (Some (InArray place)) = InArray (min (place + 1) 18446744073709551615)
next_of (Some (InObject name)) = InObject None
next_of None = InObject None

-- after a byte between values
abbrev pub entered : List Around → ℕ → List Around
entered arounds b =
    if b == 123 then arounds ++ InObject None ∷ []
    else (if b == 91 then arounds ++ InArray 0 ∷ []
    else (if b == 125 || b == 93 then outer arounds
    else (if b == 44 then replaced arounds (next_of (innermost arounds))
    else arounds)))

abbrev pub awaits_name : Option Around → Bool
awaits_name None = false
awaits_name (Some (InArray place)) = false
awaits_name (Some (InObject None)) = true
awaits_name (Some (InObject (Some name))) = false

-- the name that a text in quotes denotes, or an empty one if it is no text
abbrev pub name_in : List ℕ → List ℕ
name_in quoted = unwrap_or (option_and_then as_str (if is_utf8 quoted then read quoted else None)) []

abbrev pub after : List Around → Part → List Around
after arounds (Between b) = entered arounds b
after arounds (Scalar bytes) =
    if awaits_name (innermost arounds) then replaced arounds (InObject (Some (name_in bytes))) else arounds

-- ---- what is written

-- a step from a value to one in it: to the member of a name, or to the element at a place
pub data Step : Type 0 where
  Member : List ℕ → Step
  Element : ℕ → Step

-- the new value of a member, by the steps to it
pub record NewValue : Type 0 where
  pub steps : List Step
  pub text : List ℕ

abbrev pub is_step : Step → Around → Bool
is_step (Member name) (InObject (Some key)) = bytes_eq name key
is_step (Member name) (InObject None) = false
is_step (Member name) (InArray next) = false
is_step (Element place) (InArray next) = place == next
is_step (Element place) (InObject name) = false

-- steps lead to the value within arrays and objects
abbrev pub leads_to : List Step → List Around → Bool
leads_to [] [] = true
leads_to [] (around ∷ arounds) = false
leads_to (step ∷ steps) [] = false
leads_to (step ∷ steps) (around ∷ arounds) = is_step step around && leads_to steps arounds

-- the first of the values whose steps lead there, or what was there
abbrev pub value_or : List NewValue → List Around → List ℕ → List ℕ
value_or [] arounds bytes = bytes
value_or (value ∷ values) arounds bytes =
    if leads_to value.steps arounds then value.text else value_or values arounds bytes

abbrev pub written_for : List NewValue → List Around → Part → List ℕ
written_for values arounds (Between b) = b ∷ []
written_for values arounds (Scalar bytes) = if awaits_name (innermost arounds) then bytes else value_or values arounds bytes

-- the text of parts
abbrev pub text_from : List NewValue → List Around → List Part → List ℕ
text_from values arounds [] = []
text_from values arounds (part ∷ parts) = written_for values arounds part ++ text_from values (after arounds part) parts

-- a text with values: each name, text or number to which the steps of a value lead is this value, and every other byte stays
abbrev pub text_with : List NewValue → List ℕ → List ℕ
text_with values text = text_from values [] (parts_of text)
