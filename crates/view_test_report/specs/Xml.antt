-- Texts within XML.
use Rattle.std.specs.Prelude.{◌≡◌, ℕ, ◌==◌, ◌&&◌, ◌<◌, Bool, true, not, List, [], ◌∷◌, ◌++◌, All, codes, flat_map, nat_le, if◌then◌else◌}
use Rattle.std.specs.List.{list_all}
use Rattle.hex.specs.Hex.{encode_lower}

-- a character with a meaning by its name, a newline by its number, another byte that can be printed as it is, and each other byte
-- in hexadecimal digits
abbrev pub escaped_byte : ℕ → List ℕ
escaped_byte byte =
    if byte == 38 then codes "&amp;"
    else (if byte == 60 then codes "&lt;"
    else (if byte == 62 then codes "&gt;"
    else (if byte == 34 then codes "&quot;"
    else (if byte == 10 then codes "&#10;"
    else (if nat_le 32 byte && nat_le byte 126 then byte ∷ []
    else 92 ∷ 120 ∷ encode_lower (byte ∷ []))))))

abbrev pub escaped : List ℕ → List ℕ
escaped bytes = flat_map escaped_byte bytes

-- a text escaped for XML, between two texts that are as they are
unfoldable pub between : List ℕ → List ℕ → List ℕ → List ℕ
between before bytes after = before ++ escaped bytes ++ after

-- a byte that ends no text of XML: it can be printed, and is no character that opens or closes a tag or a quote
abbrev pub is_inside : ℕ → Bool
is_inside byte = nat_le 32 byte && (nat_le byte 126 && (not (byte == 60) && (not (byte == 62) && not (byte == 34))))

-- a text that is escaped for XML doesn't end before its end, for all bytes
abbrev pub AllStayInside : Type 0
AllStayInside = (bytes : List ℕ) → All (λ byte. byte < 256) bytes → list_all is_inside (escaped bytes) ≡ true
