-- The words of chunks, by their places, and what lies around them.
use Rattle.std.specs.Prelude.{ℕ, ◌+◌, ◌-◌, ◌/◌, ◌%◌, ◌^◌, ◌==◌, ◌&&◌, Bool, true, not, nat_lt, nat_le, if◌then◌else◌, List, [], ◌∷◌, map, length, Option, slice_index, slice_range}
use Rattle.std.specs.List.{list_any, list_all}
use Rattle.std.specs.Option.{option_map, unwrap_or}
use Rattle.std.specs.FinMap.{get, empty}
use Rattle.trade_base.specs.Word.{word_of}
use Rattle.own_model.specs.Growth.{most_chunks}
use Rattle.own_model.specs.OwnState.{zeros}
use Rattle.dataspace_core.specs.Store.{Store, Space, space_at}
use Rattle.heap_core.specs.declared.words.Chunk.{Chunk}

-- the dataspaces of chunks, by their keys
abbrev pub keys_of : List Chunk → List ℕ
keys_of chunks = map (λ chunk. chunk.ds.0) chunks

-- whether a key is among these
abbrev pub is_among : List ℕ → ℕ → Bool
is_among keys ds = list_any (λ key. key == ds) keys

-- whether none of these comes twice
abbrev pub are_distinct : List ℕ → Bool
are_distinct [] = true
are_distinct (key ∷ rest) = not (is_among rest key) && are_distinct rest

-- ---- words

-- the word at an offset of these bytes; 0 at an offset that no word has
abbrev pub word_from : List ℕ → ℕ → ℕ
word_from bytes offset =
    if offset % 8 == 0 && nat_le (offset + 8) (length bytes) then word_of (slice_range bytes offset (offset + 8)) else 0

-- the bytes of a chunk, where each dataspace has these; none if there is no such chunk
abbrev pub bytes_of_chunk : List ℕ → (ℕ → List ℕ) → ℕ → List ℕ
bytes_of_chunk keys bytes chunk = if nat_lt chunk (length keys) then bytes (slice_index keys chunk) else []

-- the word at each place of the chunks in these dataspaces; 0 at a place that no word has
unfoldable pub word_in : List ℕ → (ℕ → List ℕ) → ℕ → ℕ
word_in keys bytes place =
    if nat_lt place (2 ^ 32) then 0 else word_from (bytes_of_chunk keys bytes (place / 2 ^ 32 - 1)) (place % 2 ^ 32)

-- ---- what lies around them

-- the bytes of each dataspace of a memory
abbrev pub bytes_in_store : Store → ℕ → List ℕ
bytes_in_store store ds = (space_at store ds).bytes

-- a dataspace with its bytes left out, where the test says so: as many zeros
abbrev pub blank_if : Bool → Space → Space
blank_if hidden space = if hidden then record space { bytes = zeros (length space.bytes) } else space

-- the dataspaces of a memory, except the bytes of these
unfoldable pub spaces_but : List ℕ → Store → ℕ → Option Space
spaces_but keys store ds = option_map (blank_if (is_among keys ds)) (get store.spaces ds)

-- whether each number is a byte's
abbrev pub are_bytes : List ℕ → Bool
are_bytes numbers = list_all (λ b. nat_lt b 256) numbers

-- whether chunks in these dataspaces are apart, hold bytes, and are as many as a heap can have
abbrev pub are_chunks : List ℕ → (ℕ → List ℕ) → Bool
are_chunks keys bytes = are_distinct keys && (list_all (λ ds. are_bytes (bytes ds)) keys && nat_le (length keys) most_chunks)

-- what lies around the words: in which dataspaces they are, whether these are chunks, the memory without its dataspaces,
-- and the dataspaces except the words' bytes
pub record Around : Type 0 where
  pub keys : List ℕ
  pub sound : Bool
  pub store : Store
  pub spaces : ℕ → Option Space

-- what lies around the words of these chunks in a memory
abbrev pub around : List ℕ → Store → Around
around keys store = record {
  keys = keys;
  sound = are_chunks keys (bytes_in_store store);
  store = record store { spaces = empty };
  spaces = spaces_but keys store;
}

-- how many bytes a dataspace has, if it is there
abbrev pub size_in : Option Space → ℕ
size_in o = length (unwrap_or o (record { payer = 0; bytes = [] })).bytes

-- how many bytes of each chunk are words; none if these are no chunks
unfoldable pub bytes_around : Around → ℕ → ℕ
bytes_around a chunk =
    if a.sound && nat_lt chunk (length a.keys) then size_in (a.spaces (slice_index a.keys chunk)) else 0

-- the word at each place of chunks in a memory
abbrev pub words_of : List ℕ → Store → ℕ → ℕ
words_of keys store = word_in keys (bytes_in_store store)
