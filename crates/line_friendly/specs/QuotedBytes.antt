-- The characters of a text in quotes, and the bytes that they denote.
use Rattle.std.specs.Prelude.{ℕ, ◌+◌, ◌-◌, ◌==◌, List, [], ◌∷◌, zero, suc, slice_index, is_none, if◌then◌else◌, Option, Some, None}
use Rattle.std.specs.Option.{option_map, unwrap_or}
use Rattle.own_model.specs.Text.{byte_of_hex}
use Rattle.line_friendly.specs.declared.quoted_bytes.QuotedByte.{QuotedByte}

-- the byte after a backslash, and the length of the escape: `
-- `, `\t`, `\"`, `\\` and `\xNN`
abbrev pub escape_of : ℕ → List ℕ → Option QuotedByte
escape_of e text =
    if e == 110 then Some (record { byte = 10; size = 2 })
    else (if e == 116 then Some (record { byte = 9; size = 2 })
    else (if e == 34 then Some (record { byte = 34; size = 2 })
    else (if e == 92 then Some (record { byte = 92; size = 2 })
    else (if e == 120
    then option_map (λ byte. record { byte = byte; size = 4 }) (byte_of_hex (slice_index text 2) (slice_index text 3))
    else None))))

-- the byte with which a text begins: an escape, or a byte unchanged
abbrev pub sign_of : List ℕ → Option QuotedByte
sign_of text =
    if slice_index text 0 == 92 then escape_of (slice_index text 1) text
    else Some (record { byte = slice_index text 0; size = 1 })

-- and a byte that doesn't count if the escape is invalid
abbrev pub sign_at : List ℕ → QuotedByte
sign_at text = unwrap_or (sign_of text) (record { byte = 0; size = 1 })

-- the bytes that a text denotes, of which the first bytes belong to an escape before
abbrev pub bytes_from : ℕ → List ℕ → List ℕ
bytes_from skip [] = []
bytes_from (suc skip) (b ∷ bs) = bytes_from skip bs
bytes_from zero (b ∷ bs) = (sign_at (b ∷ bs)).byte ∷ bytes_from ((sign_at (b ∷ bs)).size - 1) bs

-- the place of the first invalid escape
abbrev pub fault_from : ℕ → List ℕ → Option ℕ
fault_from skip [] = None
fault_from (suc skip) (b ∷ bs) = option_map (λ n. 1 + n) (fault_from skip bs)
fault_from zero (b ∷ bs) =
    if is_none (sign_of (b ∷ bs)) then Some 0
    else option_map (λ n. 1 + n) (fault_from ((sign_at (b ∷ bs)).size - 1) bs)

-- the bytes that a text denotes
abbrev pub bytes_of : List ℕ → List ℕ
bytes_of text = bytes_from 0 text

-- and the place of its first invalid escape
abbrev pub fault_of : List ℕ → Option ℕ
fault_of text = fault_from 0 text
