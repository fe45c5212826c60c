-- The fault of a call that can't be parsed, and its place.
use Rattle.std.specs.Prelude.{ℕ, ◌-◌, ◌==◌, ◌&&◌, ◌||◌, Bool, List, [], ◌∷◌, length, take, codes, nat_eq, nat_lt, slice_index, is_some, if◌then◌else◌, Option, Some, None}
use Rattle.std.specs.Option.{option_map, option_map_or, option_or, unwrap_or}
use Rattle.std.specs.List.{starts_with}
use Rattle.trade_base.specs.Amount.{amount_of, number_of}
use Rattle.own_model.specs.Call.{some_bytes_of_hex}
use Rattle.own_model.specs.Text.{address_of, is_name, is_path}
use Rattle.line_grammar.specs.Forms.{form_named}
use Rattle.line_grammar.specs.declared.form.CallForm.{CallForm}
use Rattle.line_friendly.specs.Forms.{form_near, has_text, kinds_of}
use Rattle.line_friendly.specs.Words.{next_word, skip_blanks}
use Rattle.line_friendly.specs.declared.fault.FriendlyFault.{FriendlyFault}
use Rattle.line_friendly.specs.declared.fault.LineReason.{LineReason}
use Rattle.line_friendly.specs.declared.fault.LineReason.TheVariants.{NoCall, NoName, NoForm, UnknownCall, Misspelt, Missing, TooMany, SmallUnit, NoNumber, NoSize, LongAddress, NoAddress, NoHex, NoService}
use Rattle.line_friendly.specs.declared.forms.ArgumentKind.{ArgumentKind}
use Rattle.line_friendly.specs.declared.forms.ArgumentKind.TheVariants.{Number, Size, Address, Hex, Service}

-- a number with a unit of a small letter: `k` is 107, `m` is 109 and `g` is 103
abbrev pub is_small_unit : ℕ → Bool
is_small_unit b = b == 107 || (b == 109 || b == 103)

abbrev pub has_small_unit : List ℕ → Bool
has_small_unit word =
    is_small_unit (slice_index word (length word - 1)) && is_some (number_of (take (length word - 1) word))

-- more than the 16 digits of an address
abbrev pub is_long_address : List ℕ → Bool
is_long_address word =
    starts_with nat_eq word (codes "0x") && nat_lt 18 (length word)

-- the reason why a token hasn't its kind, if it hasn't
abbrev pub unless : Bool → LineReason → Option LineReason
unless fits reason = if fits then None else Some reason

abbrev pub why_word : ArgumentKind → List ℕ → Option LineReason
why_word Number word = unless (is_some (number_of word)) (if has_small_unit word then SmallUnit else NoNumber)
why_word Size word = unless (is_some (amount_of word)) (if has_small_unit word then SmallUnit else NoSize)
why_word Address word = unless (is_some (address_of word)) (if is_long_address word then LongAddress else NoAddress)
why_word Hex word = unless (is_some (some_bytes_of_hex word)) NoHex
why_word Service word = unless (is_name word) NoService

-- the place of the first token of a call's rest, in a call of this number of bytes
abbrev pub place_of : ℕ → List ℕ → ℕ
place_of count rest = count - length (skip_blanks rest)

abbrev pub at_word : ℕ → List ℕ → LineReason → FriendlyFault
at_word count rest reason = record { reason = reason; column = place_of count rest }

-- the first token after a form that has the wrong kind, is missing, or is one too many
abbrev pub why_words : CallForm → List ArgumentKind → ℕ → List ℕ → Option FriendlyFault
why_words form [] count rest =
    if has_text form || nat_eq (length (skip_blanks rest)) 0 then None else Some (at_word count rest (TooMany form))
why_words form (kind ∷ kinds) count rest =
    if nat_eq (length (skip_blanks rest)) 0 then Some (at_word count rest (Missing form))
    else option_or (option_map (at_word count rest) (why_word kind (next_word rest).word))
    (why_words form kinds count (next_word rest).rest)

-- a token that is no form's
abbrev pub why_form : List ℕ → LineReason
why_form word = option_map_or Misspelt (form_near word) UnknownCall

-- the fault after the name, in a call of this number of bytes
abbrev pub why_behind : ℕ → List ℕ → FriendlyFault
why_behind count rest =
    if nat_eq (length (skip_blanks rest)) 0 then at_word count rest NoForm
    else option_map_or
    (λ form. unwrap_or (why_words form (kinds_of form) count (next_word rest).rest) (record { reason = NoCall; column = 0 }))
    (form_named (next_word rest).word) (at_word count rest (why_form (next_word rest).word))

-- the fault of a call that can't be parsed, with its byte from 0 on: the first wrong token, from the name on
abbrev pub why : List ℕ → FriendlyFault
why call =
    if is_path (next_word call).word then why_behind (length call) (next_word call).rest
    else at_word (length call) call NoName
