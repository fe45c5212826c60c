-- The hole that was taken is a used block, whose payload is cleared.
use Rattle.std.proofs.Common.{◌≡◌, ℕ, ◌+◌, Some, sym, ap, subst, ◌∙◌}
use Rattle.std.proofs.lemmas.Option.{same_Some}
use Rattle.own_model.specs.BestFit.{Spot, block_size}
use Rattle.own_model.specs.HeapStep.{size_taken}
use Rattle.region_map.specs.Regions.{Regions}
use Rattle.dataspace_core.specs.Store.{Store}
use Rattle.heap_core.specs.declared.heap.Heap.{Heap}
use Rattle.own_model.specs.Growth.{hole_for}
use Rattle.avl_alloc.specs.declared.best_fit.BlockAddr.{BlockAddr}
use Rattle.avl_alloc.specs.Found.{block_addr}
use Rattle.heap_core.specs.Calls.{TakesHole, part_at}
use Rattle.heap_core.specs.Heap.{IsSound, chunk_at, shape_in}
use Rattle.heap_core.specs.Taken.{IsUsed}
use Rattle.heap_core.proofs.SmallLemmas.{is_used, small_others, takes_small, told_hole}
use Rattle.heap_core.proofs.heap.Heap.take_small.Goals as goal

-- the hole that was taken is used then
used_at_hole : (heap later : Heap) (bytes : ℕ) (hole : Spot) (block : BlockAddr) (old mid : Store) (regions : Regions) → IsSound heap old regions → block ≡ block_addr hole → hole_for bytes (shape_in heap (part_at heap old)) ≡ Some hole → TakesHole heap later bytes hole old mid regions →
    IsUsed later mid block (size_taken (block_size bytes) hole.size)
used_at_hole heap later bytes hole block old mid regions sound same best takes = subst (λ b. IsUsed later mid b (size_taken (block_size bytes) hole.size)) (sym same) (is_used heap later bytes hole old mid regions sound best takes)

pub clear_payload-requires-clause-used : goal.clear_payload-requires-clause-used
clear_payload-requires-clause-used c =
    let h = told_hole _ c.in_ok-block.block c.in_ok-block.ensures.found in (
      size_taken (block_size c.args.bytes) h.0.size,
      used_at_hole c.args.self.now c.take_hole.new.self c.args.bytes h.0 c.in_ok-block.block c.args.memory.now c.take_hole.new.memory c.args.map.now c.requires.sound h.2 h.1 (c.take_hole.ensures.taken h.0 h.1),
    )

-- the block that was found stands at the best hole
found_at : (c : goal.After-clear_payload) (hole : Spot) → hole_for c.args.bytes (shape_in c.args.self.now (part_at c.args.self.now c.args.memory.now)) ≡ Some hole → c.in_ok-block.block ≡ block_addr hole
found_at c hole best = let h = told_hole _ c.in_ok-block.block c.in_ok-block.ensures.found in h.2 ∙ ap block_addr (same_Some h.0 hole (sym h.1 ∙ best))

pub returns-clause-taken : goal.returns-clause-taken
returns-clause-taken c hole best =
    let takes = c.take_hole.ensures.taken hole best in
    takes_small c.args.self.now c.take_hole.new.self c.args.bytes hole c.args.memory.now c.take_hole.new.memory c.args.map.now c.requires.sound best takes c.clear_payload.new.memory c.clear_payload.result
    (c.clear_payload.ensures.start ∙ ap (λ (b : BlockAddr). (chunk_at c.take_hole.new.self b.chunk).start + b.offset + 16) (found_at c hole best))
    (c.clear_payload.ensures.cleared _ (used_at_hole c.args.self.now c.take_hole.new.self c.args.bytes hole c.in_ok-block.block c.args.memory.now c.take_hole.new.memory c.args.map.now c.requires.sound (found_at c hole best) best takes))
    c.take_hole.ensures.around c.clear_payload.ensures.around

pub returns-clause-keeps : goal.returns-clause-keeps
returns-clause-keeps c =
    let h = told_hole _ c.in_ok-block.block c.in_ok-block.ensures.found in
    let takes = c.take_hole.ensures.taken h.0 h.1 in
    record {
      sound = c.clear_payload.ensures.sound;
      others = small_others c.args.self.now c.take_hole.new.self c.args.bytes h.0 c.args.memory.now c.take_hole.new.memory c.args.map.now c.requires.sound h.1 takes c.clear_payload.new.memory c.clear_payload.result
          (c.clear_payload.ensures.start ∙ ap (λ (b : BlockAddr). (chunk_at c.take_hole.new.self b.chunk).start + b.offset + 16) (found_at c h.0 h.1))
          (c.clear_payload.ensures.cleared _ (used_at_hole c.args.self.now c.take_hole.new.self c.args.bytes h.0 c.in_ok-block.block c.args.memory.now c.take_hole.new.memory c.args.map.now c.requires.sound (found_at c h.0 h.1) h.1 takes))
          c.take_hole.ensures.around c.clear_payload.ensures.around;
      payer = c.take_hole.ensures.keeps.payer;
    }
