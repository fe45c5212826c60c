-- A sliced block less leaves the heap of nodes.
use Rattle.std.proofs.Common.{◌≡◌, ℕ, List, [], sym, ap, ◌∙◌}
use Rattle.std.specs.FinMap.{remove}
use Rattle.std.specs.Prelude.{Option, unwrap_or}
use Rattle.server_frame.proofs.HoldingLemmas.{on_ok}
use Rattle.own_model.specs.Account.{credited}
use Rattle.own_model.specs.NatMap.{NatMap}
use Rattle.own_model.specs.Sliced.{block_size}
use Rattle.dataspace_core.specs.Store.{account_in}
use Rattle.sliced_heap.specs.Heap.{blocks_at, share_at, payer_of}
use Rattle.session_nodes.specs.Calls.{payload_in}
use Rattle.session_nodes.proofs.FurnishedLemmas.{contents_held, contents_kept, nodes_stay_in}
use Rattle.session_nodes.proofs.ContentLemmas.{less_credit, less_changes, less_lent}
use Rattle.session_nodes.proofs.ResultLemmas.{free_ok}
use Rattle.session_nodes.proofs.session_heaps.SessionHeaps.give_content.Goals as goal

pub returns-clause-given : goal.returns-clause-given
returns-clause-given c =
    let f = c.requires.furnished in
    let e = c.free.ensures in
    let a = payer_of c.args.self.now.contents in
    let gives = on_ok c.free.result (free_ok c.args.address (contents_held (share_at a c.args.memory.now c.args.map.now)) c.requires.there e.refusal) e.given in
    let payload : gives.payload ≡ payload_in (blocks_at a c.args.memory.now c.args.map.now) c.args.address = sym (ap (λ (o : Option (List ℕ)). unwrap_or o []) gives.was) in
    let contents = sym (contents_held (share_at a c.args.memory.now c.args.map.now)) in
    nodes_stay_in f (less_changes f e.sound e.payer e.others c.args.address gives) _ _
    (less_credit f e.sound e.payer e.others c.args.address gives ∙ ap (λ (l : List ℕ). credited (account_in c.args.memory.now a) (block_size l) 1) (payload ∙ ap (λ (m : NatMap (List ℕ)). payload_in m c.args.address) contents))
    (gives.blocks ∙ ap (λ (m : NatMap (List ℕ)). remove m c.args.address) contents)

pub returns-clause-keeps : goal.returns-clause-keeps
returns-clause-keeps c =
    let f = c.requires.furnished in
    let e = c.free.ensures in
    let a = payer_of c.args.self.now.contents in
    let gives = on_ok c.free.result (free_ok c.args.address (contents_held (share_at a c.args.memory.now c.args.map.now)) c.requires.there e.refusal) e.given in
    contents_kept f (less_changes f e.sound e.payer e.others c.args.address gives) (less_lent f e.sound e.payer e.others c.args.address gives)
