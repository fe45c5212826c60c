-- Numbers of bytes as text.
use Rattle.std.specs.Prelude.{ℕ, ◌/◌, ◌%◌, ◌==◌, ◌&&◌, ◌++◌, List, codes, decimal, nat_lt, if◌then◌else◌}

-- bytes in K if they are whole multiples of 1024, but not 0
abbrev pub bytes_text : ℕ → List ℕ
bytes_text bytes = if nat_lt 0 bytes && bytes % 1024 == 0 then decimal (bytes / 1024) ++ codes "K" else decimal bytes
