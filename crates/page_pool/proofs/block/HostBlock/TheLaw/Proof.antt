-- A `&` to a block lends its known bytes.
use Rattle.std.proofs.Common.{◌-◌}
use base.Fraction.{full_share}
use denote.Array.{Array, Array-row_laws}
use denote.Builtin.{u8}
use denote.Param.Shared.{copy_shared}
use denote.RawPtr.{lies_at, room_for, ◌+ₚ◌}
use denote.Shares.{Shares-Array}
use denote.Struct.Field.{RawPtr-field, u8-field, usize-field}
use denote.Struct.Laws.{RawPtr-copy, u8-copy, usize-copy}
use denote.Struct.Lending.{lent_at, lent_at_shr_laws, Lends-first, Lends-lies, of_Lends}
use Rattle.page_pool.specs.Ownership.{bytes_of}
use Rattle.page_pool.specs.contracts.block.HostBlock as C
use Rattle.page_pool.proofs.block.HostBlock.TheLaw.Statement.{statement}

pub shares : statement
shares =
    let byte = copy_shared u8-field u8-copy in
    let number = copy_shared usize-field usize-copy in
    of_Lends C.struct C.the_codes C.the_heap C.the_lent
    (λ d p. lent_at_shr_laws (Array u8 d.len) (Array-row_laws u8 byte.shr_laws d.len) d.ptr d.bytes)
    (copy_shared RawPtr-field RawPtr-copy, (number, (number, tt)))
    (λ M 𝓤 𝓛 d p. Lends-first 𝓛 (lies_at (Array u8 d.len) full_share d.ptr d.bytes) (room_for (bytes_of (d.size - d.len)) (d.ptr +ₚ d.len))
    (lent_at (Array u8 d.len) d.ptr d.bytes) C.the_row.lives
    (Lends-lies 𝓛 (Array u8 d.len) C.the_row.lives d.ptr d.bytes (Shares-Array 𝓛 u8 tt d.len C.the_row.lives (byte.shares M 𝓤 𝓛) d.bytes)))
