-- How a text within a diagnostic is made of its pieces.
use Rattle.std.proofs.Common.{◌≡◌, ℕ, ◌<◌, ◌==◌, List, [], ◌∷◌, ◌++◌, length, drop, true, false, Some, None, arith, refl, sym, ◌∙◌, ap}
use Rattle.std.specs.Prelude.{codes, decimal}
use Rattle.std.proofs.lemmas.Grind.{flat_map-append}
use Rattle.std.proofs.lemmas.List.{nil_from_length}
use Rattle.std.proofs.lemmas.Str.{chars-nil, chars_past_char, chars-append, IsUtf8-from_is_utf8, utf8_lossy_chunk, utf8_lossy_last_chunk, utf8_lossy_empty}
use Rattle.std.specs.Char.{encode_utf8}
use Rattle.std.specs.Str.{chars, is_utf8, IsUtf8}
use Rattle.std.specs.Str.Lossy.{utf8_valid_len, utf8_invalid_len, utf8_lossy, replacement_bytes}
use Rattle.view_diagnostics.specs.Diagnostics.{after_colon, column_of, file_value, line_of, number_value, place_text, shown, shown_character, shown_characters}
use Rattle.view_diagnostics.specs.declared.place.FilePlace.{FilePlace}
use Rattle.view_diagnostics.specs.declared.diagnostics.DiagnosticForm.{DiagnosticForm}
use Rattle.view_diagnostics.specs.declared.diagnostics.DiagnosticForm.TheVariants.{Text, Json}

-- a character, and then those that follow it
pub characters_step : (form : DiagnosticForm) (text rest : List ℕ) (c : ℕ) → IsUtf8 text → text ≡ encode_utf8 c ++ rest → shown_characters form text ≡ shown_character form c ++ shown_characters form rest
characters_step form text rest c utf8 is = rw (chars_past_char text rest c utf8 is) refl

-- a text, and then what follows it
pub characters_then : (form : DiagnosticForm) (text rest : List ℕ) → IsUtf8 text → shown_characters form (text ++ rest) ≡ shown_characters form text ++ shown_characters form rest
characters_then form text rest utf8 = rw (chars-append text rest utf8) (flat_map-append (shown_character form) (chars text) (chars rest))

pub characters_none : (form : DiagnosticForm) (text : List ℕ) → length text ≡ 0 → shown_characters form text ≡ []
characters_none form text is = rw (nil_from_length text is, chars-nil) refl

-- U+FFFD is shown as it is
replacement_shown : (form : DiagnosticForm) → shown_characters form replacement_bytes ≡ replacement_bytes
unfolding chars encode_utf8
replacement_shown Text = refl
replacement_shown Json = refl

replacement_utf8 : IsUtf8 replacement_bytes
unfolding is_utf8 chars encode_utf8
replacement_utf8 = IsUtf8-from_is_utf8 replacement_bytes refl

-- a chunk of text, the bytes after it that are none, and what follows them
pub shown_chunk : (form : DiagnosticForm) (text valid invalid rest : List ℕ) → text ≡ valid ++ (invalid ++ rest) → length valid ≡ utf8_valid_len text → length invalid ≡ utf8_invalid_len (drop (utf8_valid_len text) text) → 0 < length invalid → IsUtf8 valid → shown form text ≡ shown_characters form valid ++ (replacement_bytes ++ shown form rest)
shown_chunk form text valid invalid rest is long short some utf8 =
    ap (shown_characters form) (utf8_lossy_chunk text valid invalid rest is long short some)
    ∙ characters_then form valid (replacement_bytes ++ utf8_lossy rest) utf8
    ∙ ap (λ back. shown_characters form valid ++ back)
    (characters_then form replacement_bytes (utf8_lossy rest) replacement_utf8 ∙ ap (λ front. front ++ shown form rest) (replacement_shown form))

-- a last chunk
pub shown_last_chunk : (form : DiagnosticForm) (text valid invalid rest : List ℕ) → text ≡ valid ++ (invalid ++ rest) → length valid ≡ utf8_valid_len text → length invalid ≡ 0 → length rest ≡ 0 → IsUtf8 valid → shown form text ≡ shown_characters form valid ++ shown form rest
shown_last_chunk form text valid invalid rest is long none over utf8 =
    ap (shown_characters form) (utf8_lossy_last_chunk text valid invalid rest is long none over)
    ∙ characters_then form valid (utf8_lossy rest) utf8

-- a chunk of text, and what follows it
pub shown_front : (form : DiagnosticForm) (text valid invalid rest : List ℕ) → text ≡ valid ++ (invalid ++ rest) → length valid ≡ utf8_valid_len text → length invalid ≡ utf8_invalid_len (drop (utf8_valid_len text) text) → (length invalid ≡ 0 → length rest ≡ 0) → IsUtf8 valid → (back : List ℕ) × (shown form text ≡ shown_characters form valid ++ back)
shown_front form text valid [] rest is long short last utf8 = (shown form rest, shown_last_chunk form text valid [] rest is long refl (last refl) utf8)
shown_front form text valid (b ∷ more) rest is long short last utf8 =
    (replacement_bytes ++ shown form rest, shown_chunk form text valid (b ∷ more) rest is long short (omega arith) utf8)

pub shown_none : (form : DiagnosticForm) (text : List ℕ) → length text ≡ 0 → shown form text ≡ []
shown_none form text is = ap (shown_characters form) (utf8_lossy_empty text is) ∙ characters_none form [] refl

-- ---- what precedes a message

pub no_place : (file : List ℕ) (place : FilePlace) → (length file == 0) ≡ true → place_text file place ≡ []
unfolding place_text
no_place file place is = rw is refl

pub some_place : (file : List ℕ) (place : FilePlace) → (length file == 0) ≡ false → place_text file place ≡ shown Text file ++ after_colon (line_of place) ++ after_colon (column_of place) ++ codes ": "
unfolding place_text
some_place file place is = rw is refl

pub no_file : (file : List ℕ) → (length file == 0) ≡ true → file_value file ≡ codes "null"
unfolding file_value
no_file file is = rw is refl

pub some_file : (file : List ℕ) → (length file == 0) ≡ false → file_value file ≡ codes "\"" ++ shown Json file ++ codes "\""
unfolding file_value
some_file file is = rw is refl

pub no_number : after_colon None ≡ []
unfolding after_colon
no_number = refl

pub some_number : (n : ℕ) → after_colon (Some n) ≡ codes ":" ++ decimal n
unfolding after_colon
some_number n = refl

pub null_value : number_value None ≡ codes "null"
unfolding number_value
null_value = refl

pub digits_value : (n : ℕ) → number_value (Some n) ≡ decimal n
unfolding number_value
digits_value n = refl
