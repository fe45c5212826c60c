-- Bytes that are all zero.
use Rattle.std.specs.Prelude.{ℕ, List, replicate}

-- so many zero bytes
unfoldable pub zeros : ℕ → List ℕ
zeros n = replicate n 0
