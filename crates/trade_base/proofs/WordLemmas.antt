-- Laws of words and their bytes.
use Rattle.std.proofs.Common.{◌≡◌, ℕ, ◌<◌, ◌^◌, List, length, get_or, zero, suc, lit<, refl, arith}
use Rattle.std.specs.Int.{bytes_low_first}
use Rattle.std.proofs.lemmas.Nat.{from_le_bytes-to_le_bytes_8, le_bytes_8}
use Rattle.trade_base.specs.Word.{word_of, word_bytes}

-- a word has eight bytes
pub length-word_bytes : (word : ℕ) → length (word_bytes word) ≡ 8
unfolding word_bytes
length-word_bytes word = refl

-- each is a byte
bytes_low_first-lt : (from count word i : ℕ) → get_or (bytes_low_first from count word) i 0 < 256
bytes_low_first-lt from zero word i = lit< tt
bytes_low_first-lt zero (suc count) word zero = omega arith
bytes_low_first-lt (suc from) (suc count) word zero = omega arith
bytes_low_first-lt from (suc count) word (suc i) = bytes_low_first-lt (suc from) count word i

pub word_bytes-lt : (word i : ℕ) → get_or (word_bytes word) i 0 < 256
unfolding word_bytes
word_bytes-lt word i = bytes_low_first-lt 0 8 word i

-- a word that is written reads back
pub word_of-word_bytes : (word : ℕ) → word < 2 ^ 64 → word_of (word_bytes word) ≡ word
unfolding word_of word_bytes
word_of-word_bytes word small = from_le_bytes-to_le_bytes_8 word small

-- the bytes of a word that was read are those that were read
pub word_bytes-word_of : (bytes : List ℕ) → length bytes ≡ 8 → ((i : ℕ) → get_or bytes i 0 < 256) → word_bytes (word_of bytes) ≡ bytes
unfolding word_of word_bytes
word_bytes-word_of bytes long small = le_bytes_8 bytes _ long small refl

-- eight bytes hold a word of 64 bits
pub word_of-lt : (bytes : List ℕ) → ((i : ℕ) → get_or bytes i 0 < 256) → word_of bytes < 2 ^ 64
unfolding word_of
word_of-lt bytes small =
    omega (arith, small 0, small 1, small 2, small 3, small 4, small 5, small 6, small 7)
