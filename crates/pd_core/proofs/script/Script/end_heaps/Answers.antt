-- The sliced blocks go, and the chunks and large blocks stay where they stand until they go.
use Rattle.pd_core.proofs.ExitEndLemmas.{heap_left, clears}
use Rattle.pd_core.proofs.script.Script.end_heaps.Goals as goal

pub end-requires-2 : goal.end-requires-2
end-requires-2 c =
    let sliced = c.end.ensures in
    (heap_left _ _ c.requires.sound sliced.sound sliced.payer sliced.others sliced.given).sound

pub returns-clause-cleared : goal.returns-clause-cleared
returns-clause-cleared c =
    let sliced = c.end.ensures in
    let heap = c.end-2.ensures in
    clears _ _ c.requires.sound sliced.sound sliced.payer sliced.others sliced.given heap.given heap.sound heap.others c.requires.none
