-- Lines and replies whose bytes have no meaning in the friendly form.
use Rattle.std.specs.Prelude.{ℕ, ◌+◌, ◌==◌, ◌&&◌, ◌||◌, not, Bool, false, is_none, List, length, nat_le, nat_lt, slice_index, Option, Some, None}
use Rattle.std.specs.List.{list_all}
use Rattle.std.specs.Str.{bytes_eq}
use Rattle.own_model.specs.Transcript.{longest_line}
use Rattle.line_friendly.specs.Expected.{meets}

-- a space, or a character of ASCII after `$` except `=` and `@`. No name, quote, comment, directive, arrow or byte order mark begins
-- with it, and no line ends with it in place of its last character
abbrev pub is_bare_byte : ℕ → Bool
is_bare_byte b = b == 32 || (nat_lt 36 b && (nat_lt b 128 && not (b == 61 || b == 64)))

abbrev pub is_bare : List ℕ → Bool
is_bare text = list_all is_bare_byte text

-- a line of such bytes that begins with its first token
abbrev pub is_bare_line : List ℕ → Bool
is_bare_line line = nat_lt 36 (slice_index line 0) && is_bare line

-- a line is the one that was run, which expects no reply, and is short and bare with this reply
abbrev pub is_bare_with : Option (List ℕ) → List ℕ → List ℕ → List ℕ → Bool
is_bare_with expected run line reply =
    (is_none expected && bytes_eq line run)
    && (nat_le (length line + 4 + length reply) longest_line && (is_bare_line line && is_bare reply))

-- a reply meets the expected one, if one is expected
abbrev pub is_expected : List ℕ → Option (List ℕ) → Bool
is_expected reply None = false
is_expected reply (Some expected) = meets reply expected
