-- The payload of a large block is its dataspace.
use Rattle.std.proofs.Common.{arith}
use Rattle.heap_core.proofs.LookupLemmas.{large_paid, large_size, large_none_past, large_held}
use Rattle.heap_core.proofs.heap.Heap.range_in_large.Goals as goal

pub size-requires : goal.size-requires
size-requires c = (large_paid _ _ _ c.requires.sound _ _ _ c.requires.lies).exists

pub overflow_sub-size : goal.overflow_sub-size
overflow_sub-size c =
    let size = large_size _ _ _ c.requires.sound _ _ _ c.requires.lies in
    let told = c.size.ensures in
    let high = c.requires.lies.high in
    omega (arith, size, told, high)

pub returns-then-count-size : goal.returns-then-count-size
returns-then-count-size c =
    let size = large_size _ _ _ c.requires.sound _ _ _ c.requires.lies in
    let told = c.size.ensures in
    let past = c.if-count-size.true in
    record { some = tt; none = large_none_past _ _ _ c.requires.sound _ _ _ c.requires.lies _ c.requires.some (omega (arith, size, told, past)) }

pub returns : goal.returns
returns c =
    let size = large_size _ _ _ c.requires.sound _ _ _ c.requires.lies in
    let told = c.size.ensures in
    let within = c.if-count-size.false in
    let high = c.requires.lies.high in
    record { some = large_held _ _ _ c.requires.sound _ _ _ c.requires.lies _ c.requires.some (omega (arith, size, told, within, high)); none = tt }
