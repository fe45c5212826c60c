-- Tokens of JSON, and texts of bytes.
use Rattle.std.proofs.Common.{◌≡◌, ◌==◌, ◌||◌, ℕ, Bool, true, false, not, List, [], ◌∷◌, ◌++◌, append-nil, ap, ap₂, arith, nat_lt, refl, sym}
use Rattle.std.specs.List.{list_all}
use Rattle.std.specs.Prelude.{IsTrue, IsUtf8}
use Rattle.std.specs.Str.Lossy.{utf8_lossy}
use Rattle.std.proofs.lemmas.Bool.{and_parts, or_parts}
use Rattle.std.proofs.lemmas.Bool.Decides.{nat_tests}
use Rattle.std.proofs.lemmas.Str.{utf8_lossy-IsUtf8}
use Rattle.json.specs.Token.{Token}
use Rattle.json.specs.Print.{escape, escape_byte, print, print_from, quoted, token_text}
use Rattle.json.specs.Run.{is_plain, is_stop}

-- the text of one token
pub print_one : (t : Token) → print (t ∷ []) ≡ token_text t
unfolding print_from
print_one t = append-nil (token_text t)

-- nothing of UTF-8 is replaced
pub lossy_text : (bytes : List ℕ) → IsUtf8 bytes → utf8_lossy bytes ≡ bytes
lossy_text bytes utf8 = utf8_lossy-IsUtf8 bytes utf8

-- a byte that isn't a control character is none of these
no_control : (x k : ℕ) → nat_lt k 32 ≡ true → nat_lt x 32 ≡ false → (x == k) ≡ false
no_control x k below above = grind (arith, nat_tests)

stops_not : (b : Bool) → not b ≡ true → b ≡ false
stops_not true plain = sym plain
stops_not false plain = refl

plain_byte : (x : ℕ) → is_stop x ≡ false → escape_byte x ≡ x ∷ []
unfolding escape_byte
plain_byte x plain =
    let parts = or_parts ((x == 34) || (x == 92)) (nat_lt x 32) plain in
    let quotes = or_parts (x == 34) (x == 92) parts.0 in
    let above = parts.1 in
    rw (
      quotes.0,
      quotes.1,
      no_control x 8 refl above,
      no_control x 12 refl above,
      no_control x 10 refl above,
      no_control x 13 refl above,
      no_control x 9 refl above,
      above,
    ) refl

escape_plain : (text : List ℕ) → list_all is_plain text ≡ true → escape text ≡ text
escape_plain [] plain = refl
escape_plain (x ∷ text) plain =
    let parts = and_parts (is_plain x) (list_all is_plain text) plain in
    ap₂ (λ (one rest : List ℕ). one ++ rest) (plain_byte x (stops_not (is_stop x) parts.0)) (escape_plain text parts.1)

-- a text that needs no escapes, in quotes
pub plain_text : (text : List ℕ) → IsTrue (list_all is_plain text) → quoted text ≡ 34 ∷ (text ++ 34 ∷ [])
plain_text text plain = ap (λ t. 34 ∷ (t ++ 34 ∷ [])) (escape_plain text plain)
