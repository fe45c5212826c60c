-- The bytes of a scenario's source.
use Rattle.std.specs.Prelude.{ℕ, List, Option, Some, None}
use Rattle.cli_base.specs.declared.streams.Origin.{Origin}
use Rattle.cli_base.specs.declared.streams.Origin.TheVariants.{Typed, File, Held}

-- what is left of bytes in memory, and of a file; of standard input it isn't known
abbrev pub origin_bytes : {F : Type 0} → (F → Option (List ℕ)) → Origin F → Option (List ℕ)
origin_bytes bytes_of (Typed input) = None
origin_bytes bytes_of (File file) = bytes_of file
origin_bytes bytes_of (Held bytes) = Some bytes.now
