-- A sliced block more leaves the heap of nodes.
use Rattle.std.proofs.Common.{◌-◌, refl, sym, ap, ◌∙◌}
use Rattle.sliced_heap.specs.Heap.{share_at, payer_of}
use Rattle.std.specs.FinMap.{get, insert}
use Rattle.own_model.specs.OwnState.{zeros}
use Rattle.own_model.specs.Sliced.{sliced_size, sliced_header}
use Rattle.session_nodes.proofs.FurnishedLemmas.{contents_held, contents_kept, nodes_stay_in}
use Rattle.session_nodes.proofs.ContentLemmas.{more_no_payload, more_charge, more_changes, more_lent}
use Rattle.session_nodes.proofs.ResultLemmas.{if_ok_then, either_way, keeps_same}
use Rattle.session_nodes.proofs.session_heaps.SessionHeaps.take_content.Goals as goal

pub returns-clause-taken : goal.returns-clause-taken
returns-clause-taken c =
    let f = c.requires.furnished in
    let e = c.alloc.ensures in
    if_ok_then c.alloc.result e.taken (λ address takes.
    nodes_stay_in f (more_changes f e.sound e.payer e.others c.args.bytes address takes) _ _
    (more_charge f e.sound e.payer e.others c.args.bytes address takes)
    (takes.blocks ∙ ap (λ m. insert m address (zeros (sliced_size c.args.bytes - sliced_header))) (sym (contents_held (share_at (payer_of c.args.self.now.contents) c.args.memory.now c.args.map.now)))))

pub returns-clause-free : goal.returns-clause-free
returns-clause-free c =
    let f = c.requires.furnished in
    let e = c.alloc.ensures in
    if_ok_then c.alloc.result e.taken (λ address takes.
    ap (λ m. get m address) (contents_held (share_at (payer_of c.args.self.now.contents) c.args.memory.now c.args.map.now)) ∙ more_no_payload f e.sound e.payer e.others c.args.bytes address takes)

pub returns-clause-keeps : goal.returns-clause-keeps
returns-clause-keeps c =
    let f = c.requires.furnished in
    let e = c.alloc.ensures in
    either_way c.alloc.result e.taken e.err e.memory_err e.map_err
    (λ address takes. contents_kept f (more_changes f e.sound e.payer e.others c.args.bytes address takes) (more_lent f e.sound e.payer e.others c.args.bytes address takes))
    (λ same memory map. keeps_same f refl same memory map)
