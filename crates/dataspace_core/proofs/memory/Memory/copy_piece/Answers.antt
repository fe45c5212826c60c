-- The piece lies in either dataspace's run, and only the target has other bytes.
use Rattle.std.proofs.Common.{◌≡◌, ℕ, ◌+◌, ◌≤◌, List, length, ap, ◌∙◌, arith}
use Rattle.std.specs.Prelude.{slice_range}
use Rattle.trade_base.proofs.BytesLemmas.{length-slice_range}
use Rattle.dataspace_core.specs.Layout.{run_bytes}
use Rattle.dataspace_core.specs.Store.{Store, space_at, with_bytes_at}
use Rattle.dataspace_core.proofs.MemoryLemmas.{key_there, is_found, leaves-write}
use Rattle.dataspace_core.proofs.memory.Memory.copy_piece.Goals as goal

pub space_under-requires : goal.space_under-requires
space_under-requires c = key_there c.self.invariant c.args.from.0 c.self.view_is c.requires.source

pub space_under-requires-2 : goal.space_under-requires-2
space_under-requires-2 c = key_there c.self.invariant c.args.to.0 c.self.view_is c.requires.target

pub copy_piece-requires : goal.copy_piece-requires
copy_piece-requires c =
    let source = is_found c.self.invariant c.args.from.0 c.space_under.result c.space_under.ensures c.self.view_is in
    let target = is_found c.self.invariant c.args.to.0 c.space_under-2.result c.space_under-2.ensures c.self.view_is in
    record {
      source = source.run;
      target = target.run;
      apart = λ i j here there same. c.requires.apart (c.self.invariant.laid_out.apart c.args.from.0 c.args.to.0 _ _ c.space_under.ensures c.space_under-2.ensures i j here there same).0;
      there = record { some = c.requires.some; fits = c.requires.from_page; within = omega (arith, c.requires.there, source.size) };
      room = record { some = c.requires.some; fits = c.requires.to_page; within = omega (arith, c.requires.room, target.size) };
    }

-- as long as what is asked for
piece_long : (bytes run : List ℕ) (from count : ℕ) → run ≡ bytes → from + count ≤ length bytes → length (slice_range run from (from + count)) ≡ count
piece_long bytes run from count is there = let size = ap length is in length-slice_range run from count (omega (arith, size))

pub invariant_of-self : goal.invariant_of-self
invariant_of-self c =
    let a = c.args in
    let source = is_found c.self.invariant a.from.0 c.space_under.result c.space_under.ensures c.self.view_is in
    let target = is_found c.self.invariant a.to.0 c.space_under-2.result c.space_under-2.ensures c.self.view_is in
    let long = piece_long (space_at a.self.now a.from.0).bytes _ a.from_offset a.count source.bytes c.requires.there in
    (leaves-write c.self.invariant a.to.0 c.space_under-2.result c.space_under-2.ensures (omega (arith, long, c.requires.room, target.size)) c.copy_piece.ensures).sound

pub returns : goal.returns
returns c =
    let a = c.args in
    let source = is_found c.self.invariant a.from.0 c.space_under.result c.space_under.ensures c.self.view_is in
    let target = is_found c.self.invariant a.to.0 c.space_under-2.result c.space_under-2.ensures c.self.view_is in
    let run = run_bytes c.self.inside.pool c.self.inside.table.items c.space_under.result.run.start c.space_under.result.run.count in
    let long = piece_long (space_at a.self.now a.from.0).bytes run a.from_offset a.count source.bytes c.requires.there in
    (leaves-write c.self.invariant a.to.0 c.space_under-2.result c.space_under-2.ensures (omega (arith, long, c.requires.room, target.size)) c.copy_piece.ensures).is
    ∙ ap (λ (s : Store). with_bytes_at s a.to.0 a.to_offset (slice_range run a.from_offset (a.from_offset + a.count))) c.self.view_is
    ∙ ap (λ bytes. with_bytes_at a.self.now a.to.0 a.to_offset (slice_range bytes a.from_offset (a.from_offset + a.count))) source.bytes
