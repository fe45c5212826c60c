-- The messages of errors in a scenario's lines, in pieces, and how an error is written.
use Rattle.std.specs.Prelude.{ℕ, ◌+◌, ◌==◌, ◌||◌, suc, Bool, true, false, nat_eq, List, [], ◌∷◌, ◌++◌, codes, decimal, map, if◌then◌else◌, Option, Some, None, Result, Ok, Err}
use Rattle.std.specs.Io.KnownBytes.{Appends}
use Rattle.std.specs.List.{list_any, starts_with}
use Rattle.std.specs.Option.{option_map}
use Rattle.own_model.specs.Text.{hex_bytes}
use Rattle.core_calls.specs.declared.outcome.Outcome.{Outcome}
use Rattle.core_calls.specs.declared.outcome.Outcome.TheVariants.{Bytes}
use Rattle.run_devices.specs.RunOutput.{AppendsPart}
use Rattle.run_scenario.specs.Texts.{shown_text}

-- all of a text is written, or a part of it, from the front, if there was a fault
abbrev pub WritesUnless : {T E : Type 0} → Result T E → Option (List ℕ) → Option (List ℕ) → List ℕ → Type 0
WritesUnless (Ok done) old new text = Appends old new text
WritesUnless (Err fault) old new text = AppendsPart old new text

-- ---- bytes as text

-- the text after the last space
abbrev pub token_after : List ℕ → List ℕ → List ℕ
token_after token [] = token
token_after token (b ∷ rest) = if b == 32 then token_after rest rest else token_after token rest

abbrev pub last_token : List ℕ → List ℕ
last_token text = token_after text text

-- bytes, if there are some and all can be printed
abbrev pub shown_bytes : List ℕ → Option (List ℕ)
shown_bytes bytes = option_map (λ text. bytes) (shown_text bytes)

-- a quote and a backslash have a backslash before them
abbrev pub message_character : ℕ → List ℕ
message_character b = if b == 34 || b == 92 then 92 ∷ b ∷ [] else b ∷ []

abbrev pub bracket_pieces : Option (List ℕ) → List (List ℕ)
bracket_pieces None = []
bracket_pieces (Some bytes) = codes " (\"" ∷ (map message_character bytes ++ codes "\")" ∷ [])

-- a text with its closing quote, and then the bytes that its last token has in digits, as text
abbrev pub text_pieces : Bool → List ℕ → List (List ℕ)
text_pieces has_bytes text =
    text ∷ codes "`" ∷ bracket_pieces (if has_bytes then shown_bytes (hex_bytes (last_token text)) else None)

-- ---- where two texts differ

-- how many bytes they have in common at their fronts
abbrev pub common : List ℕ → List ℕ → ℕ
common [] other = 0
common (b ∷ text) [] = 0
common (b ∷ text) (c ∷ other) = if b == c then suc (common text other) else 0

abbrev pub has_byte : ℕ → List ℕ → Bool
has_byte byte text = list_any (λ other. other == byte) text

-- the first byte, from 1 on, at which a reply and its expectation differ, unless that is the first one, or a `*` or a quote of
-- the expectation has a meaning of its own
abbrev pub difference : List ℕ → List ℕ → Option ℕ
difference reply expected =
    if common reply expected == 0 || (has_byte 42 expected || has_byte 34 expected) then None
    else Some (common reply expected + 1)

abbrev pub difference_pieces : Option ℕ → List (List ℕ)
difference_pieces None = []
difference_pieces (Some byte) = codes "; they differ at byte " ∷ decimal byte ∷ []

-- ---- messages

-- a call's outcome is bytes that it read
abbrev pub are_bytes : Outcome → Bool
are_bytes Bytes = true
are_bytes other = false

-- an expectation of bytes that are read
abbrev pub is_data : List ℕ → Bool
is_data expected = starts_with nat_eq expected (codes "data ")

-- a reply has bytes in digits: text is expected of it, or it is bytes that were read
abbrev pub has_bytes : Outcome → List ℕ → Bool
has_bytes outcome expected = has_byte 34 expected || are_bytes outcome

abbrev pub expected_pieces : List ℕ → List (List ℕ)
expected_pieces expected = codes "expected `" ∷ text_pieces (is_data expected) expected

abbrev pub found_pieces : Outcome → List ℕ → List ℕ → List (List ℕ)
found_pieces outcome reply expected = codes ", found `" ∷ text_pieces (has_bytes outcome expected) reply

-- a reply that differs from the expected one
abbrev pub reply_pieces : Outcome → List ℕ → List ℕ → List (List ℕ)
reply_pieces outcome reply expected =
    expected_pieces expected ++ (found_pieces outcome reply expected ++ difference_pieces (difference reply expected))
