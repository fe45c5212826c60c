-- The lines of a scenario with other donations.
use Rattle.std.specs.Prelude.{ℕ, ◌-◌, ◌||◌, ◌&&◌, ◌==◌, Bool, true, false, List, [], ◌∷◌, ◌++◌, length, take, drop, not, codes, decimal, nat_eq, is_some, position, if◌then◌else◌}
use Rattle.std.specs.Char.{is_ascii_whitespace}
use Rattle.std.specs.List.{flat_map, starts_with, suffix_len}
use Rattle.std.specs.Option.{option_map_or}
use Rattle.std.specs.Str.{bytes_eq}
use Rattle.own_model.specs.Amounts.{Amounts}
use Rattle.line_friendly.specs.Friendly.{arrow_of, end_of, is_passed, trimmed_line}
use Rattle.line_friendly.specs.Words.{next_word, skip_blanks}

abbrev pub is_empty : List ℕ → Bool
is_empty [] = true
is_empty (b ∷ bytes) = false

-- a line opens a session if `open` follows its component, and then a service without a name in it: `$` is 36
abbrev pub opens : List ℕ → List ℕ → Bool
opens call service = bytes_eq call (codes "open") && not (is_empty service) && not (is_some (position (λ b. b == 36) service))

abbrev pub can_donate : List ℕ → Bool
can_donate line =
    opens (next_word (next_word (trimmed_line line)).rest).word (next_word (next_word (next_word (trimmed_line line)).rest).rest).word

-- ---- the parts of a line

abbrev pub without_blanks : List ℕ → List ℕ
without_blanks text = take (length text - suffix_len is_ascii_whitespace text) text

-- a line up to the end of its call, without the blanks there: before an arrow and the reply, a comment, or a carriage return
abbrev pub before_arrow : List ℕ → List ℕ
before_arrow text = option_map_or (λ place. take place text) (arrow_of text) text

abbrev pub call_of : List ℕ → List ℕ
call_of line = without_blanks (if is_passed line then line else before_arrow (take (end_of line) line))

-- the arguments at the end of a call: after the component, `open` and the service
abbrev pub args_of : List ℕ → List ℕ
args_of call = skip_blanks (next_word (next_word (next_word (trimmed_line call)).rest).rest).rest

-- the pairs of arguments, with a comma outside of quotes between two: a quote is 34, a comma 44
abbrev pub ends_pair : Bool → ℕ → Bool
ends_pair quoted b = b == 44 && not quoted

abbrev pub quoted_after : Bool → ℕ → Bool
quoted_after quoted b = if b == 34 then not quoted else quoted

abbrev pub pairs_from : Bool → List ℕ → List ℕ → List (List ℕ)
pairs_from quoted pair [] = pair ∷ []
pairs_from quoted pair (b ∷ rest) =
    if ends_pair quoted b then pair ∷ pairs_from quoted [] rest
    else pairs_from (quoted_after quoted b) (pair ++ b ∷ []) rest

-- ---- another donation

abbrev pub is_donation : List ℕ → Bool
is_donation pair = starts_with nat_eq pair (codes "ram_quota=") || starts_with nat_eq pair (codes "cap_quota=")

-- a pair stays, except for a donation
abbrev pub kept_pair : List ℕ → List ℕ
kept_pair pair = if is_empty (skip_blanks pair) || is_donation (skip_blanks pair) then [] else codes ", " ++ skip_blanks pair

abbrev pub kept_pairs : List ℕ → List ℕ
kept_pairs args = flat_map kept_pair (pairs_from false [] args)

abbrev pub donation_pairs : Amounts → List ℕ
donation_pairs donation = codes "ram_quota=" ++ decimal donation.ram ++ codes ", cap_quota=" ++ decimal donation.caps

abbrev pub blank_before : List ℕ → List ℕ
blank_before args = if is_empty args then codes " " else []

-- a call with another donation: its pairs, and then those of the call that are kept
abbrev pub call_with : Amounts → List ℕ → List ℕ
call_with donation call =
    take (length call - length (args_of call)) call ++ blank_before (args_of call) ++ donation_pairs donation ++ kept_pairs (args_of call)

-- a line with another donation: what follows its call stays
abbrev pub line_with : Amounts → List ℕ → List ℕ
line_with donation line = call_with donation (call_of line) ++ drop (length (call_of line)) line
