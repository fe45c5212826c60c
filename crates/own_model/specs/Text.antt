-- Lines, words, names, numbers, addresses and hex.
use Rattle.std.specs.Prelude.{ℕ, ◌+◌, ◌-◌, ◌*◌, ◌==◌, ◌&&◌, ◌||◌, Bool, List, [], ◌∷◌, length, take, drop, codes, nat_le, if◌then◌else◌, Option, Some, None}
use Rattle.std.specs.List.{list_all, slice_split}
use Rattle.std.specs.Option.{option_map, option_and_then, unwrap_or}
use Rattle.std.specs.Char.{is_ascii_alphanumeric}
use Rattle.std.specs.Str.{bytes_eq}
pub use Rattle.trade_base.specs.Amount.{number_of}

-- the pieces of a text between its newlines, except a last piece that is empty
abbrev pub without_empty_end : List (List ℕ) → List (List ℕ)
without_empty_end [] = []
without_empty_end ([] ∷ []) = []
without_empty_end ([] ∷ piece ∷ pieces) = [] ∷ without_empty_end (piece ∷ pieces)
without_empty_end ((b ∷ bs) ∷ pieces) = (b ∷ bs) ∷ without_empty_end pieces

-- the lines of a text: it is cut at each newline, and a last piece counts only if it isn't empty
abbrev pub lines_of : List ℕ → List (List ℕ)
lines_of text = without_empty_end (slice_split (λ b. b == 10) text)

-- a text up to its first space, and what stands after that space, if there is one
pub record FirstWord : Type 0 where
  pub word : List ℕ
  pub rest : Option (List ℕ)

abbrev pub first_word : List ℕ → FirstWord
first_word [] = record { word = []; rest = None }
first_word (b ∷ bs) =
    if b == 32 then record { word = []; rest = Some bs }
    else record { word = b ∷ (first_word bs).word; rest = (first_word bs).rest }

-- a letter, a digit, `_`, `-` or `.`
abbrev pub is_name_byte : ℕ → Bool
is_name_byte b = is_ascii_alphanumeric b || (b == 95 || (b == 45 || b == 46))

-- 1 to 32 bytes of names
abbrev pub is_name : List ℕ → Bool
is_name bs = (nat_le 1 (length bs) && nat_le (length bs) 32) && list_all is_name_byte bs

-- a path: 1 to 4 names separated by `/`
abbrev pub is_path : List ℕ → Bool
is_path bs = nat_le (length (slice_split (λ b. b == 47) bs)) 4 && list_all is_name (slice_split (λ b. b == 47) bs)

-- the value of a hex digit of either case: `A` is 65, `a` is 97 and `0` is 48
abbrev pub hex_digit_of : ℕ → Option ℕ
hex_digit_of b =
    if nat_le 65 b && nat_le b 70 then Some (b - 55)
    else (if nat_le 97 b && nat_le b 102 then Some (b - 87)
    else (if nat_le 48 b && nat_le b 57 then Some (b - 48)
    else None))

-- the number that hex digits denote which follow those of n
abbrev pub hex_number_after : ℕ → List ℕ → Option ℕ
hex_number_after n [] = Some n
hex_number_after n (b ∷ bs) = option_and_then (λ digit. hex_number_after (n * 16 + digit) bs) (hex_digit_of b)

-- the address that `0x` and 1 to 16 hex digits denote
abbrev pub address_of : List ℕ → Option ℕ
address_of text =
    if bytes_eq (take 2 text) (codes "0x") && (nat_le 3 (length text) && nat_le (length text) 18)
    then hex_number_after 0 (drop 2 text)
    else None

-- the byte of two hex digits
abbrev pub byte_of_hex : ℕ → ℕ → Option ℕ
byte_of_hex high low = option_and_then (λ h. option_map (λ l. h * 16 + l) (hex_digit_of low)) (hex_digit_of high)

-- the bytes of an even number of hex digits
abbrev pub bytes_of_hex : List ℕ → Option (List ℕ)
bytes_of_hex [] = Some []
bytes_of_hex (digit ∷ []) = None
bytes_of_hex (high ∷ low ∷ rest) =
    option_and_then (λ byte. option_map (λ bytes. byte ∷ bytes) (bytes_of_hex rest)) (byte_of_hex high low)

-- the same, or nothing if a text isn't that
abbrev pub hex_bytes : List ℕ → List ℕ
hex_bytes text = unwrap_or (bytes_of_hex text) []
