-- Whether there is room for a chunk is told by the number of chunks, and what covers the larger chunk covers the least.
use Rattle.std.proofs.Common.{◌≡◌, ◌≤◌, ◌<◌, ◌==◌, Bool, false, length, sym, ap, ◌∙◌, arith}
use Rattle.std.proofs.lemmas.Bool.Decides.{nat_tests}
use Rattle.trade_base.specs.Page.{page_of}
use Rattle.own_model.specs.Account.{shortage}
use Rattle.dataspace_core.specs.Store.{Store, account_in}
use Rattle.arrayvec.specs.ArrayVec.{ArrayVec, array_vec_len}
use Rattle.heap_core.specs.declared.words.Chunk.{Chunk}
use Rattle.heap_core.specs.Calls.{part_at}
use Rattle.heap_core.specs.Heap.{payer_of, shape_in}
use Rattle.heap_core.proofs.GrowthLemmas.{chunk_count, full_refused, room_refused, less_covered}
use Rattle.heap_core.proofs.heap.Heap.grow.Goals as goal

-- vectors that aren't full have room
has_room : (chunks : ArrayVec Chunk) (is_full : Bool) → is_full ≡ (array_vec_len chunks == 64) → array_vec_len chunks ≤ 64 → is_full ≡ false → length chunks.items < 64
has_room chunks is_full value fits test = grind (arith, nat_tests, value, fits, test)

pub returns-then-is_full-clause-refusal : goal.returns-then-is_full-clause-refusal
returns-then-is_full-clause-refusal c =
    let count = chunk_count c.args.self.now c.args.memory.now c.args.map.now c.requires.sound in
    let value = c.is_full.ensures.value in
    let test = c.if-is_full.true in
    let full : 64 ≤ length c.args.self.now.chunks.items = grind (arith, nat_tests, value, test) in
    sym (full_refused c.args.bytes (shape_in c.args.self.now (part_at c.args.self.now c.args.memory.now)) (account_in c.args.memory.now (payer_of c.args.self.now)) (omega (arith, count, full)))

pub returns-in-Ok-clause-refusal : goal.returns-in-Ok-clause-refusal
returns-in-Ok-clause-refusal c =
    let a = account_in c.args.memory.now (payer_of c.args.self.now) in
    let count = chunk_count c.args.self.now c.args.memory.now c.args.map.now c.requires.sound in
    let room = has_room c.args.self.now.chunks c.is_full.result c.is_full.ensures.value c.is_full.ensures.fits c.if-is_full.false in
    let least = c.block_bytes-least.ensures in
    let larger = c.max-larger.ensures in
    sym (room_refused c.args.bytes (shape_in c.args.self.now (part_at c.args.self.now c.args.memory.now)) a (omega (arith, count, room))
    ∙ less_covered a (page_of c.max-larger.result) _ 1 (omega (arith, least, larger)) (sym c.in-Ok.ensures.refusal))

pub returns-in-Err-clause-refusal : goal.returns-in-Err-clause-refusal
returns-in-Err-clause-refusal c =
    let a = account_in c.args.memory.now (payer_of c.args.self.now) in
    let count = chunk_count c.args.self.now c.args.memory.now c.args.map.now c.requires.sound in
    let room = has_room c.args.self.now.chunks c.is_full.result c.is_full.ensures.value c.is_full.ensures.fits c.if-is_full.false in
    c.add_chunk-in-Err.ensures.refusal
    ∙ ap (λ (s : Store). shortage (account_in s (payer_of c.add_chunk.new.self)) (page_of c.block_bytes-least.result) 1) c.in-Err.ensures.err.same_memory
    ∙ ap (λ p. shortage (account_in c.args.memory.now p) (page_of c.block_bytes-least.result) 1) c.add_chunk.ensures.keeps.payer
    ∙ ap (λ b. shortage a (page_of b) 1) c.block_bytes-least.ensures
    ∙ sym (room_refused c.args.bytes (shape_in c.args.self.now (part_at c.args.self.now c.args.memory.now)) a (omega (arith, count, room)))
