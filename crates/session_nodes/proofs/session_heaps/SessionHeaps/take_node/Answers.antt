-- A block is taken in the best hole, or in a chunk by which the heap grows.
use Rattle.std.proofs.Common.{◌≡◌, Some, refl, sym, ap, ◌∙◌}
use Rattle.std.specs.Prelude.{Option, None}
use Rattle.own_model.specs.BestFit.{Spot}
use Rattle.own_model.specs.Growth.{hole_for}
use Rattle.session_nodes.proofs.NodeTakeLemmas.{taken_by, kept_by, shape_there, refusal_is, small_keeps, taken_in_hole, grown_keeps, taken_in_chunk}
use Rattle.session_nodes.proofs.NodeFreeLemmas.{node_free}
use Rattle.session_nodes.proofs.ResultLemmas.{keeps_same}
use Rattle.heap_core.specs.Heap.{shape_in}
use Rattle.heap_core.specs.Calls.{part_at}
use Rattle.session_nodes.specs.SoundHeaps.{KeepsSession}
use Rattle.session_nodes.proofs.session_heaps.SessionHeaps.take_node.Goals as goal

pub returns-clause-refusal : goal.returns-clause-refusal
returns-clause-refusal c = c.alloc.ensures.refusal ∙ refusal_is c.args.bytes c.requires.furnished

pub returns-clause-taken : goal.returns-clause-taken
returns-clause-taken c =
    let f = c.requires.furnished in
    let e = c.alloc.ensures in
    taken_by c.alloc.result e.small e.grown (λ address small grown. record {
      free = node_free c.args.bytes f e.sound address (λ hole best. small hole c.requires.small best) (λ none. grown c.requires.small none);
      in_hole = λ hole best. taken_in_hole c.args.bytes f e.sound e.payer e.others hole address (small hole c.requires.small (ap (hole_for c.args.bytes) (sym (shape_there c.args.bytes f)) ∙ best));
      in_chunk = λ none. taken_in_chunk c.args.bytes f e.sound e.payer e.others address (grown c.requires.small (ap (hole_for c.args.bytes) (sym (shape_there c.args.bytes f)) ∙ none));
    })

pub returns-clause-keeps : goal.returns-clause-keeps
returns-clause-keeps c =
    let f = c.requires.furnished in
    let e = c.alloc.ensures in
    kept_by c.alloc.result e.small e.grown e.err e.memory_err e.map_err
    (λ address small grown. elim (hole_for c.args.bytes (shape_in c.args.self.now.nodes (part_at c.args.self.now.nodes c.args.memory.now))) as (λ (o : Option Spot).
    hole_for c.args.bytes (shape_in c.args.self.now.nodes (part_at c.args.self.now.nodes c.args.memory.now)) ≡ o → KeepsSession c.args.self.now.contents c.alloc.new.self c.args.self.now.contents c.args.memory.now c.alloc.new.memory c.args.map.now c.alloc.new.map) [
      | Some hole ↦ λ best. small_keeps c.args.bytes f e.sound e.payer e.others hole address (small hole c.requires.small best)
      | None ↦ λ none. grown_keeps c.args.bytes f e.sound e.payer e.others address (grown c.requires.small none)
    ] refl)
    (λ same memory map. keeps_same f same refl memory map)
