-- Words of 64 bits, as the eight bytes that hold one, the lowest first.
use Rattle.std.specs.Prelude.{ℕ, List}
use Rattle.std.specs.Int.{w64, to_le_bytes, from_le_bytes}

-- the word that eight bytes hold
unfoldable pub word_of : List ℕ → ℕ
word_of bytes = from_le_bytes w64 bytes

-- the eight bytes of a word
unfoldable pub word_bytes : ℕ → List ℕ
word_bytes word = to_le_bytes w64 word
