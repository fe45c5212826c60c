-- Bytes and their hexadecimal digits.
use Rattle.std.proofs.Common.{◌≡◌, ℕ, ◌+◌, ◌*◌, ◌/◌, ◌<◌, nat_lt, List, [], ◌∷◌, length, sym, ap, ◌∙◌, arith, is_some, IsSome, true, true≢false, Some}
use Rattle.std.specs.Prelude.{◌&&◌}
use Rattle.std.specs.Option.{unwrap_or}
use Rattle.std.proofs.lemmas.Bool.Decides.{nat_tests}
use Rattle.own_model.proofs.NatMapLemmas.{some_of}
use Rattle.own_model.specs.Text.{bytes_of_hex, hex_digit_of}
use Rattle.std.proofs.lemmas.Option.{same_Some}
use Rattle.heap_core.specs.Words.{are_bytes}
use Rattle.own_model.proofs.LogLemmas.{bytes_of_digits}
use Rattle.text_codec.proofs.AddressLemmas.{digit_below}
use Rattle.text_codec.proofs.HexLemmas.{parts}
use Rattle.core_calls.specs.Call.{bytes_in}

-- the same of the bytes that text stands for
pub half_is : (text : List ℕ) → IsSome (bytes_of_hex text) → length text / 2 ≡ length (bytes_in text)
half_is text some =
    let bytes = some_of (bytes_of_hex text) some in
    let same : length (bytes_in text) ≡ length bytes.0 = ap (λ o. length (unwrap_or o [])) bytes.1 in
    omega (arith, bytes_of_digits text bytes.0 bytes.1, same)

-- two digits are a byte
byte_small : (high low : ℕ) → high < 16 → low < 16 → nat_lt (high * 16 + low) 256 ≡ true
byte_small high low h l = grind (arith, nat_tests)

-- what is decoded are bytes
decoded_small : (text bytes : List ℕ) → bytes_of_hex text ≡ Some bytes → are_bytes bytes ≡ true
decoded_small [] bytes is = ap are_bytes (sym (same_Some [] bytes is))
decoded_small (digit ∷ []) bytes is = absurd (true≢false (sym (ap is_some is)))
decoded_small (high ∷ low ∷ rest) bytes is =
    let p = parts (hex_digit_of high) (hex_digit_of low) (bytes_of_hex rest) bytes is in
    ap are_bytes p.all ∙ ap (λ b. b && are_bytes p.rest) (byte_small p.high p.low (digit_below high p.high p.is_high) (digit_below low p.low p.is_low))
    ∙ decoded_small rest p.rest p.is_rest

-- the same of the bytes that text stands for
pub bytes_small : (text : List ℕ) → IsSome (bytes_of_hex text) → are_bytes (bytes_in text) ≡ true
bytes_small text some =
    let bytes = some_of (bytes_of_hex text) some in
    ap (λ o. are_bytes (unwrap_or o [])) bytes.1 ∙ decoded_small text bytes.0 bytes.1
