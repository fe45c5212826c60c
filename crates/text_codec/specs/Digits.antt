-- Hexadecimal digits by their bits.
use Rattle.std.specs.Prelude.{ℕ, ◌+◌, ◌*◌, ◌/◌, ◌%◌}

-- the value of a digit by its bits: the low four, and nine more for a letter
abbrev pub bits_value : ℕ → ℕ
bits_value digit = digit % 16 + 9 * (digit / 64 % 2)

-- the digit of a value by its bits: 48 more, and 39 more for a letter
abbrev pub bits_digit : ℕ → ℕ
bits_digit value = value + 48 + 39 * ((value + 6) / 16 % 2)
