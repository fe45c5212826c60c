-- Bytes that are put over others.
use Rattle.std.specs.Prelude.{ℕ, ◌+◌, List, ◌++◌, length, take, drop}

-- bytes with a part put over them at an offset
unfoldable pub with_bytes : List ℕ → ℕ → List ℕ → List ℕ
with_bytes bytes offset part = take offset bytes ++ part ++ drop (offset + length part) bytes
