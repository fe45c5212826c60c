-- The payload of the block that holds the address is the one that can hold the range.
use Rattle.std.proofs.Common.{arith}
use Rattle.sliced_heap.proofs.BlockLemmas.{none_found, outside, range_held}
use Rattle.sliced_heap.proofs.LookLemmas.{block_space}
use Rattle.sliced_heap.proofs.heap.SlicedHeap.block_of.Goals.{then-offset-lt-SLICED_HEADER-via-then-offset-lt-SLICED_HEADER, then-offset-lt-SLICED_HEADER-via-else-offset-lt-SLICED_HEADER+then-count-size}
use Rattle.sliced_heap.proofs.heap.SlicedHeap.block_of.Goals as goal

pub returns-in_err-start-clause-none : goal.returns-in_err-start-clause-none
returns-in_err-start-clause-none c =
    rw c.from_residual.ensures (none_found _ _ c.requires.sound.linked _ _ c.requires.some c.in_err-start.ensures.none)

pub size-size-requires : goal.size-size-requires
size-size-requires c = (block_space c.requires.sound _ _ _ c.in_ok-start.ensures.some.region).0

pub overflow_sub-size : goal.overflow_sub-size
overflow_sub-size c =
    let held = c.in_ok-start.ensures.some in
    let size = (block_space c.requires.sound _ _ _ held.region).1 in
    let high = held.high in
    let told = c.size-size.ensures in
    omega (arith, size, told, high)

pub returns-then-offset-lt-SLICED_HEADER-clause-none : goal.returns-then-offset-lt-SLICED_HEADER-clause-none
returns-then-offset-lt-SLICED_HEADER-clause-none c =
    let held = c.in_ok-start.ensures.some in
    let size = (block_space c.requires.sound _ _ _ held.region).1 in
    let told = c.size-size.ensures in
    let low = held.low in
    outside _ _ c.requires.sound.linked _ _ _ _ c.requires.some held (λ behind within. elim c.then-offset-lt-SLICED_HEADER.branch [
      | then-offset-lt-SLICED_HEADER-via-then-offset-lt-SLICED_HEADER w ↦ let short = w.if-offset-lt-SLICED_HEADER.true in omega (arith, short, behind)
      | then-offset-lt-SLICED_HEADER-via-else-offset-lt-SLICED_HEADER+then-count-size w ↦ let long = w.if-count-size.true in omega (arith, long, within, size, told, low)
    ])

pub returns-clause-some : goal.returns-clause-some
returns-clause-some c =
    let held = c.in_ok-start.ensures.some in
    let size = (block_space c.requires.sound _ _ _ held.region).1 in
    let told = c.size-size.ensures in
    let low = held.low in
    let high = held.high in
    let behind = c.if-offset-lt-SLICED_HEADER.false in
    let within = c.if-count-size.false in
    range_held _ _ c.requires.sound.linked _ _ _ _ c.requires.some held _ (omega (arith, low)) behind (omega (arith, within, size, told, high))
