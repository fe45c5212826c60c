-- The map has no region yet, so both heaps are sound.
use Rattle.std.proofs.Common.{◌≤◌, arith}
use Rattle.layer_tests.proofs.HeapLemmas.{beside_booted}
use Rattle.layer_tests.proofs.heaps.TwoHeaps.boot.Goals as goal

pub returns : goal.returns
returns g c =
    let small : 64 ≤ 4096 = omega arith in
    let fresh = rw c.expect-memory.ensures at c.boot.ensures.fresh in
    let map = rw c.expect-map.ensures at c.boot-2.ensures in
    let free = rw c.expect-account.ensures at c.open.ensures.fresh in
    let part = rw c.expect-account.ensures at c.open.ensures.part in
    beside_booted _ _ _ _ _ _ _ _ _ _ _ _ _ _ _ fresh small c.root-root.ensures.«open» free part c.open.ensures.ram_moved map (c.new.ensures.sound _ _) c.new.ensures.payer (c.new-2.ensures.sound _ _) c.new-2.ensures.payer
