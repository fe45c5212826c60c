-- Theorems about every line of the friendly form.
use Rattle.std.specs.Prelude.{◌≡◌, ◌-◌, ◌≤◌, ◌==◌, ◌&&◌, ◌||◌, Bool, true, false, List, [], ◌∷◌, ℕ, length, drop, codes, nat_eq, position, slice_index, is_none, is_some, Option, Some, None, Ok}
use Rattle.std.specs.List.{starts_with}
use Rattle.trade_base.specs.Amount.{amount_of, number_of}
use Rattle.own_model.specs.Call.{parsed_call}
use Rattle.own_model.specs.Text.{first_word}
use Rattle.own_model.specs.Transcript.{longest_line}
use Rattle.line_friendly.specs.Expectations.{ExactRepliesAreEqual}
use Rattle.line_friendly.specs.Friendly.{arrow_of, expects_bad_line, said_of, trimmed_line, without_comment, without_meant, without_return}
use Rattle.line_friendly.specs.Friendly.FriendlyLine.{Call}
use Rattle.line_friendly.specs.CallParts.{CallTail, kept_text, parts_of, sizes_in, tail_text}
use Rattle.line_friendly.specs.CallParts.CallTail.{Words, Kept, Sized, Request, Quoted}
use Rattle.line_friendly.specs.Quotes.{after_text, first_outside, first_stray, is_arrow, is_comment, is_outside}
use Rattle.line_friendly.specs.Words.{next_word, skip_blanks, words_spaced}
use Rattle.line_friendly.specs.declared.quotes.QuoteState.TheVariants.{Outside}

-- a line is a call in the engine's grammar, or is expected to be none
abbrev pub IsCallOrExpected : List ℕ → Option (List ℕ) → Type 0
IsCallOrExpected line reply = (is_some (parsed_call line) || expects_bad_line reply) ≡ true

-- the engine's line of a line that doesn't begin with `!` is a call, or is expected to be none
abbrev pub CallsAreCalls : Type 0
CallsAreCalls =
    (whole line : List ℕ) (reply : Option (List ℕ)) → (slice_index (trimmed_line whole) 0 == 33) ≡ false →
    said_of whole ≡ Ok (Call line reply) → IsCallOrExpected line reply

-- a size with a suffix
abbrev pub is_suffixed : List ℕ → Bool
is_suffixed word = is_none (number_of word) && is_some (amount_of word)

-- one is after a token, if these of its tokens are sizes
abbrev pub has_suffix : List Bool → Option (List ℕ) → Bool
has_suffix sizes None = false
has_suffix [] (Some text) = false
has_suffix (sized ∷ more) (Some text) =
    (sized && is_suffixed (first_word text).word) || has_suffix more (first_word text).rest

-- a call has a text in quotes that is written, or a size with a suffix in a request
abbrev pub is_translated : CallTail → Bool
is_translated (Words rest) = false
is_translated (Kept rest) = false
is_translated (Sized rest) = false
is_translated (Request rest) = has_suffix (sizes_in (first_word (drop 1 rest)).word) (first_word (drop 1 rest)).rest
is_translated (Quoted front inside left) = true

-- a line of the engine's grammar has none of the forms that are translated: no carriage return at its end, no quote that
-- isn't closed, no arrow, no other `=>` and no comment outside of quotes, no text in quotes that is written, and no suffix in a request
pub record IsPlain (line : List ℕ) : Type 0 where
  pub call : is_some (parsed_call line) ≡ true
  pub short : length line ≤ longest_line
  pub ending : without_return line ≡ line
  pub closed : is_outside (after_text Outside line) ≡ true
  pub arrow : arrow_of line ≡ None
  pub straight : first_stray Outside line ≡ None
  pub comment : first_outside is_comment Outside line ≡ None
  pub untranslated : is_translated (parts_of line).tail ≡ false

-- a line has neither a `$`, by which a name begins, nor an `@` as its first character
pub record IsBare (line : List ℕ) : Type 0 where
  pub nameless : position (λ b. b == 36) line ≡ None
  pub says : (slice_index (trimmed_line line) 0 == 64) ≡ false

-- such a line is passed to the engine unchanged
abbrev pub PlainLinesPass : Type 0
PlainLinesPass = (line : List ℕ) → IsPlain line → said_of line ≡ Ok (Call line None)

-- a text that doesn't begin with a tab begins with an arrow if the arrow is after a space
abbrev pub ArrowsFollowSpaces : Type 0
ArrowsFollowSpaces = (text : List ℕ) → nat_eq (slice_index text 0) 9 ≡ false → is_arrow text ≡ starts_with nat_eq text (codes " => ")

-- a line that has none of the later forms says what it said before there were any
pub record LaterFormsAreMarked : Type 0 where
  pub mark : (line : List ℕ) → starts_with nat_eq line (239 ∷ 187 ∷ 191 ∷ []) ≡ false → trimmed_line line ≡ skip_blanks line
  pub comment : (text : List ℕ) → first_outside is_comment Outside text ≡ None → without_comment text ≡ text
  pub meant : (text : List ℕ) → nat_eq (slice_index text (length text - 1)) 33 ≡ false → without_meant text ≡ text
  pub arrow : ArrowsFollowSpaces
  pub request : (blank : ℕ) (text : List ℕ) → has_suffix (sizes_in (first_word text).word) (first_word text).rest ≡ false →
      tail_text (Request (blank ∷ text)) ≡ kept_text (blank ∷ text)
  pub peek : (rest : List ℕ) → is_suffixed (next_word rest).word ≡ false → tail_text (Sized rest) ≡ words_spaced false rest
  pub reply : ExactRepliesAreEqual
