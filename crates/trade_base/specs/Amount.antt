-- Numbers and amounts, as texts write them.
use Rattle.std.specs.Prelude.{ℕ, ◌^◌, ◌-◌, ◌*◌, ◌==◌, ◌&&◌, List, length, take, slice_index, nat_lt, if◌then◌else◌, Option, Some, None}
use Rattle.std.specs.Option.{option_and_then}
use Rattle.std.specs.Str.{all_ascii_digits}
use Rattle.std.specs.Str.Parse.{digits_value}

-- the number that one or more decimal digits denote, if it is below 2^64
abbrev pub number_of : List ℕ → Option ℕ
number_of ds =
    if (nat_lt 0 (length ds) && all_ascii_digits ds) && nat_lt (digits_value 10 ds) (2 ^ 64)
    then Some (digits_value 10 ds)
    else None

-- how much a suffix denotes: `K` is 75, `M` is 77 and `G` is 71
abbrev pub unit_of : ℕ → Option ℕ
unit_of b =
    if b == 75 then Some (2 ^ 10)
    else (if b == 77 then Some (2 ^ 20)
    else (if b == 71 then Some (2 ^ 30)
    else None))

-- so many times a unit, if that is below 2^64
abbrev pub times : ℕ → ℕ → Option ℕ
times unit n = if nat_lt (n * unit) (2 ^ 64) then Some (n * unit) else None

-- the amount of a text that ends in this unit, or in none
abbrev pub amount_in : Option ℕ → List ℕ → Option ℕ
amount_in None text = number_of text
amount_in (Some unit) text = option_and_then (times unit) (number_of (take (length text - 1) text))

-- the amount that a text denotes: a number, or a number and a suffix
abbrev pub amount_of : List ℕ → Option ℕ
amount_of text = amount_in (unit_of (slice_index text (length text - 1))) text
