-- Texts in quotes, on one line.
use Rattle.std.specs.Prelude.{ℕ, ◌/◌, ◌%◌, ◌==◌, Bool, true, false, List, ◌++◌, codes, if◌then◌else◌}
use Rattle.std.specs.Char.{encode_utf8, is_control}
use Rattle.std.specs.Fmt.{digits}
use Rattle.std.specs.List.{flat_map}
use Rattle.std.specs.Str.{chars}

-- a quote and a backslash, as they are written; within a quoted text of a graph
abbrev pub quote_in : Bool → List ℕ
quote_in true = codes "\\\""
quote_in false = codes "\""

abbrev pub backslash_in : Bool → List ℕ
backslash_in true = codes "\\\\"
backslash_in false = codes "\\"

-- four hexadecimal digits of a control character
abbrev pub four_digits : ℕ → List ℕ
four_digits c = codes "00" ++ digits 16 false (c / 16) ++ digits 16 false (c % 16)

-- a character without a short form
abbrev pub other_sign : Bool → ℕ → List ℕ
other_sign in_graph c = if is_control c then backslash_in in_graph ++ codes "u" ++ four_digits c else encode_utf8 c

-- a character: a quote, a backslash, a new line, a tab and other control characters after a backslash
abbrev pub sign_text : Bool → ℕ → List ℕ
sign_text in_graph c =
    if c == 34 then backslash_in in_graph ++ quote_in in_graph
    else (if c == 92 then backslash_in in_graph ++ backslash_in in_graph
    else (if c == 10 then backslash_in in_graph ++ codes "n"
    else (if c == 9 then backslash_in in_graph ++ codes "t" else other_sign in_graph c)))

abbrev pub escaped_text : Bool → List ℕ → List ℕ
escaped_text in_graph text = flat_map (sign_text in_graph) (chars text)

abbrev pub quoted_text : Bool → List ℕ → List ℕ
quoted_text in_graph text = quote_in in_graph ++ escaped_text in_graph text ++ quote_in in_graph
