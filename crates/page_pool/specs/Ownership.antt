-- What a block of host memory owns: known bytes at the pointer, and room after them.
use Rattle.std.specs.Prelude.{ℕ, ◌-◌, List}
use Rattle.std.specs.Borrow.{full_share, u8, Array}
use mir.Syntax.{Ty, w8, ty_int, ty_array}
use base.Fml.{Fml, Lft, fsep}
use denote.RawPtr.{Ptr, lies_at, room_for, ◌+ₚ◌}
use denote.Struct.Lending.{lent_at}

-- n bytes, as a type of the machine
abbrev pub bytes_of : ℕ → Ty
bytes_of n = ty_array (ty_int w8) n

-- len known bytes at p, and room after them for as many as size has more
abbrev pub block_owns : Ptr → ℕ → ℕ → List ℕ → Fml
block_owns p len size bytes =
    fsep (lies_at (Array u8 len) full_share p bytes) (room_for (bytes_of (size - len)) (p +ₚ len))

-- what a shared borrow of a block lends: the known bytes
abbrev pub block_shares : Ptr → ℕ → List ℕ → Lft → Fml
block_shares p len bytes = lent_at (Array u8 len) p bytes
