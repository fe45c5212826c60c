use Rattle.std.proofs.Common.{◌<◌, ◌≤◌, subst, sym, arith}
use Rattle.own_model.specs.BestFit.{chunk_of}
use Rattle.own_model.specs.Heap.{bytes_in}
use Rattle.avl_alloc.specs.Layout.{heap_of}
use Rattle.avl_alloc.proofs.LayoutLemmas.{sound_chunk, sound_missing, sound_room}
use Rattle.avl_alloc.proofs.FreedLemmas.{there_none, there_some}
use Rattle.avl_alloc.proofs.WalkLemmas.{walk_loads_few}
use Rattle.avl_alloc.proofs.best_fit.BestFit.reach.Goals as goal

-- no such chunk
pub returns-then-addr-self-clause-found : goal.returns-then-addr-self-clause-found
returns-then-addr-self-clause-found g c =
    let none = sound_missing c.args.self.now (g.M.WordMemory.word c.args.memory.now) c.args.addr.chunk c.requires.sound c.if-addr-self.true in
    there_none c.args.addr.offset (chunk_of (heap_of c.args.self.now (g.M.WordMemory.word c.args.memory.now)) c.args.addr.chunk) (subst (λ b. bytes_in b ≤ c.args.addr.offset) (sym none) (omega arith))

pub offset_bounds-self-addr : goal.offset_bounds-self-addr
offset_bounds-self-addr g c =
    let there = sound_chunk c.args.self.now (g.M.WordMemory.word c.args.memory.now) c.args.addr.chunk c.requires.sound c.if-addr-self.false in
    omega (arith, there.low)

pub bounds-self-addr : goal.bounds-self-addr
bounds-self-addr g c =
    let there = sound_chunk c.args.self.now (g.M.WordMemory.word c.args.memory.now) c.args.addr.chunk c.requires.sound c.if-addr-self.false in
    there.low

-- past the chunk
pub returns-then-addr-self-2-clause-found : goal.returns-then-addr-self-2-clause-found
returns-then-addr-self-2-clause-found g c =
    let there = sound_chunk c.args.self.now (g.M.WordMemory.word c.args.memory.now) c.args.addr.chunk c.requires.sound c.if-addr-self.false in
    there_none c.args.addr.offset _ (omega (arith, there.total, c.if-addr-self-2.true))

pub walk-requires : goal.walk-requires
walk-requires g c =
    let there = sound_chunk c.args.self.now (g.M.WordMemory.word c.args.memory.now) c.args.addr.chunk c.requires.sound c.if-addr-self.false in (
      chunk_of (heap_of c.args.self.now (g.M.WordMemory.word c.args.memory.now)) c.args.addr.chunk,
      there.laid,
      sound_room c.args.self.now (g.M.WordMemory.word c.args.memory.now) c.args.addr.chunk _ c.requires.sound c.if-addr-self.false c.requires.fits,
      omega (arith, there.total, c.if-addr-self-2.false),
    )

pub returns-clause-found : goal.returns-clause-found
returns-clause-found g c =
    let there = sound_chunk c.args.self.now (g.M.WordMemory.word c.args.memory.now) c.args.addr.chunk c.requires.sound c.if-addr-self.false in
    let blocks = chunk_of (heap_of c.args.self.now (g.M.WordMemory.word c.args.memory.now)) c.args.addr.chunk in
    let within : c.args.addr.offset < bytes_in blocks = omega (arith, there.total, c.if-addr-self-2.false) in
    there_some c.args.addr.offset blocks _ within (c.walk.ensures.found blocks there.laid within)

pub returns-clause-loads : goal.returns-clause-loads
returns-clause-loads g c =
    let there = sound_chunk c.args.self.now (g.M.WordMemory.word c.args.memory.now) c.args.addr.chunk c.requires.sound c.if-addr-self.false in
    let blocks = chunk_of (heap_of c.args.self.now (g.M.WordMemory.word c.args.memory.now)) c.args.addr.chunk in
    let within : c.args.addr.offset < bytes_in blocks = omega (arith, there.total, c.if-addr-self-2.false) in
    omega (arith, c.walk.ensures.loads blocks there.laid within, walk_loads_few c.args.addr.offset blocks within)
