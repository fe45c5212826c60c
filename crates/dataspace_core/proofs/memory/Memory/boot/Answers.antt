-- The memory that boots is sound, and has no dataspace.
use Rattle.std.proofs.Common.{◌+◌}
use Rattle.dataspace_core.proofs.MemoryLemmas.{leaves-boot}
use Rattle.dataspace_core.proofs.memory.Memory.boot.Goals as goal

pub invariant_of-result : goal.invariant_of-result
invariant_of-result c =
    (leaves-boot c.in_ok-books.books c.in_ok-pool.pool c.in_ok-table.table.items _ c.in_ok-spaces.spaces c.args.pages c.args.caps.0 (c.in_ok-books.books.room + 1) c.in_ok-spaces.ensures.none c.in_ok-books.ensures.fresh
    c.requires.pages (rw c.min.ensures at c.in_ok-spaces.ensures.room) c.in_ok-pool.ensures.fresh c.in_ok-pool.ensures.count c.in_ok-table.ensures.none c.in_ok-table.ensures.room).sound

pub returns-clause-fresh : goal.returns-clause-fresh
returns-clause-fresh c =
    (leaves-boot c.in_ok-books.books c.in_ok-pool.pool c.in_ok-table.table.items _ c.in_ok-spaces.spaces c.args.pages c.args.caps.0 (c.in_ok-books.books.room + 1) c.in_ok-spaces.ensures.none c.in_ok-books.ensures.fresh
    c.requires.pages (rw c.min.ensures at c.in_ok-spaces.ensures.room) c.in_ok-pool.ensures.fresh c.in_ok-pool.ensures.count c.in_ok-table.ensures.none c.in_ok-table.ensures.room).is
