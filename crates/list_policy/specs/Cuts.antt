-- Parts of texts.
use Rattle.std.specs.Prelude.{ℕ, ◌+◌, ◌-◌, ◌^◌, ◌==◌, suc, min, List, [], ◌∷◌, length, position, take, drop, nat_eq, if◌then◌else◌, Option, Some, None}
use Rattle.std.specs.Char.{is_ascii_whitespace}
use Rattle.std.specs.List.{ends_with, prefix_len, starts_with}
use Rattle.std.specs.Option.{option_map, unwrap_or}

-- the text before the first byte of a value; without one all of it
abbrev pub front : ℕ → List ℕ → List ℕ
front byte text = unwrap_or (option_map (λ at. take at text) (position (λ b. b == byte) text)) text

-- the text after that byte
abbrev pub rest : ℕ → List ℕ → Option (List ℕ)
rest byte text = option_map (λ at. drop (at + 1) text) (position (λ b. b == byte) text)

-- a text without its end, if it ends so
abbrev pub before_end : List ℕ → List ℕ → Option (List ℕ)
before_end end text = if ends_with nat_eq text end then Some (take (length text - length end) text) else None

-- the place at which a text first has another one
abbrev pub text_at : List ℕ → List ℕ → Option ℕ
text_at needle [] = None
text_at needle (b ∷ text) = if starts_with nat_eq (b ∷ text) needle then Some 0 else option_map (λ at. suc at) (text_at needle text)

-- a text without the blanks at its front
abbrev pub trimmed_start : List ℕ → List ℕ
trimmed_start text = drop (prefix_len is_ascii_whitespace text) text

-- their number
abbrev pub blanks : List ℕ → ℕ
blanks text = length text - length (trimmed_start text)

-- the sum of two positions, at most the largest of 64 bits
abbrev pub plus : ℕ → ℕ → ℕ
plus one other = min (one + other) (2 ^ 64 - 1)
