-- Bytes in hex, as the kit writes them.
use Rattle.std.proofs.Common.{◌≡◌, ℕ, ◌/◌, ◌%◌, List, [], ◌∷◌, refl, ap}
use Rattle.std.specs.Prelude.{slice_index}
use Rattle.own_model.specs.Reply.{hex_text}
use Rattle.hex.specs.Hex.{encode_with, encode_lower, lower_digits}

-- the kit's small digits are those of a reply
pub hex_text_is : (bytes : List ℕ) → encode_lower bytes ≡ hex_text bytes
unfolding encode_with hex_text
hex_text_is [] = refl
hex_text_is (b ∷ bs) = ap (λ l. slice_index lower_digits (b / 16) ∷ slice_index lower_digits (b % 16) ∷ l) (hex_text_is bs)
