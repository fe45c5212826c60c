-- Sums after a name.
use Rattle.std.specs.Prelude.{ℕ, ◌+◌, ◌^◌, ◌==◌, ◌&&◌, not, Bool, zero, suc, List, [], ◌∷◌, take, decimal, nat_eq, nat_lt, slice_index, if◌then◌else◌, Option, Some, None, Result, Ok, Err}
use Rattle.std.specs.Char.{is_ascii_alphanumeric, is_ascii_digit}
use Rattle.std.specs.List.{position_or_len}
use Rattle.std.specs.Option.{option_or}
use Rattle.trade_base.specs.Amount.{amount_of}
use Rattle.own_model.specs.Reply.{address_text}
use Rattle.own_model.specs.Text.{address_of}
use Rattle.line_names.specs.declared.fault.NameReason.{NameReason}
use Rattle.line_names.specs.declared.fault.NameReason.TheVariants.{NoNumber, NoSum, SumTooLarge}

-- one step, and then another
abbrev pub and_then : {A B E : Type 0} → Result A E → (A → Result B E) → Result B E
and_then (Ok x) f = f x
and_then (Err e) f = Err e

abbrev pub map_ok : {A B E : Type 0} → (A → B) → Result A E → Result B E
map_ok f (Ok x) = Ok (f x)
map_ok f (Err e) = Err e

-- a sum begins with `+` and a digit, and continues with letters and digits
abbrev pub begins_sum : List ℕ → Bool
begins_sum text = slice_index text 0 == 43 && is_ascii_digit (slice_index text 1)

-- the number of letters and digits at the front of a text
abbrev pub count_length : List ℕ → ℕ
count_length text = position_or_len (λ b. not (is_ascii_alphanumeric b)) text

-- the number that is added: an amount, or an address
abbrev pub count_of : List ℕ → Option ℕ
count_of word = option_or (amount_of word) (address_of word)

-- with a number more, which fits 64 bits
abbrev pub sum_of : ℕ → Option ℕ → Result ℕ NameReason
sum_of total None = Err NoSum
sum_of total (Some n) = if nat_lt (total + n) (2 ^ 64) then Ok (total + n) else Err SumTooLarge

-- a number and the sums at the front of a text, of which the first bytes belong to one before
abbrev pub total_from : ℕ → ℕ → List ℕ → Result ℕ NameReason
total_from skip total [] = Ok total
total_from (suc skip) total (b ∷ bs) = total_from skip total bs
total_from zero total (b ∷ bs) =
    if begins_sum (b ∷ bs)
    then and_then (sum_of total (count_of (take (count_length bs) bs))) (λ t. total_from (count_length bs) t bs)
    else Ok total

-- how many bytes these sums have
abbrev pub sums_from : ℕ → List ℕ → ℕ
sums_from skip [] = 0
sums_from (suc skip) (b ∷ bs) = 1 + sums_from skip bs
sums_from zero (b ∷ bs) = if begins_sum (b ∷ bs) then 1 + sums_from (count_length bs) bs else 0

abbrev pub sums_length : List ℕ → ℕ
sums_length text = sums_from 0 text

-- a value with the sums after it, printed as replies print numbers
abbrev pub number_with : Option ℕ → Option ℕ → List ℕ → Result (List ℕ) NameReason
number_with (Some n) address text = map_ok decimal (total_from 0 n text)
number_with None (Some n) text = map_ok address_text (total_from 0 n text)
number_with None None text = Err NoNumber

-- a value as it is in a line, by the text after its name
abbrev pub value_with : List ℕ → List ℕ → Result (List ℕ) NameReason
value_with value text =
    if begins_sum text then number_with (amount_of value) (address_of value) text else Ok value
