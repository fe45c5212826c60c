-- Names in a text.
use Rattle.std.specs.Prelude.{ℕ, ◌+◌, ◌==◌, ◌&&◌, ◌||◌, not, Bool, List, length, take, drop, nat_eq, slice_index, if◌then◌else◌}
use Rattle.std.specs.Char.{is_ascii_alphabetic, is_ascii_alphanumeric}
use Rattle.std.specs.List.{position_or_len}

-- a name begins with a letter or `_`, and continues with letters, digits and `_`
abbrev pub begins_name : List ℕ → Bool
begins_name text = is_ascii_alphabetic (slice_index text 0) || slice_index text 0 == 95

abbrev pub is_name_byte : ℕ → Bool
is_name_byte b = is_ascii_alphanumeric b || b == 95

-- the number of bytes at the front of a text that may be in a name
abbrev pub name_length : List ℕ → ℕ
name_length text = position_or_len (λ b. not (is_name_byte b)) text

abbrev pub is_name : List ℕ → Bool
is_name word = begins_name word && nat_eq (name_length word) (length word)

-- the token that a `$` begins, by the text after it: nothing, so that it denotes itself; `$$`; a name, with the number of bytes
-- after the `$` up to its end; or a brace that isn't closed or has no name
pub data DollarToken : Type 0 where
  Alone : DollarToken
  Doubled : DollarToken
  Named : List ℕ → ℕ → DollarToken
  Broken : DollarToken

-- a name after `${`, with its brace
abbrev pub braced : List ℕ → DollarToken
braced text =
    if begins_name text && slice_index text (name_length text) == 125
    then Named (take (name_length text) text) (name_length text + 2) else Broken

abbrev pub sign_of : List ℕ → DollarToken
sign_of text =
    if slice_index text 0 == 36 then Doubled
    else (if slice_index text 0 == 123 then braced (drop 1 text)
    else (if begins_name text then Named (take (name_length text) text) (name_length text)
    else Alone))

-- the number of its bytes after the `$`
abbrev pub sign_length : DollarToken → ℕ
sign_length Alone = 0
sign_length Doubled = 1
sign_length (Named name size) = size
sign_length Broken = 0
