-- At first nothing is copied, and then a piece more each time.
use Rattle.std.proofs.Common.{◌+◌, ◌≤◌, length, sym, ap, subst, ◌∙◌, arith}
use Rattle.std.specs.Prelude.{slice_range}
use Rattle.dataspace_core.specs.Store.{PartBecomes, part, part_with_bytes, space_at}
use Rattle.dataspace_core.proofs.CopyLemmas.{done_all, copied_none, copied_part, source_there, same_source, target_there, target_long, copied_more}
use Rattle.dataspace_core.proofs.memory.Memory.copy.Goals as goal

pub loop-done-init : goal.loop-done-init
loop-done-init c =
    let a = c.args in
    record {
      within = omega arith;
      copied = copied_none a.self.now a.from.0 a.to.0 c.requires.apart c.requires.source c.requires.target a.from_offset a.to_offset a.count c.requires.there c.requires.room;
    }

pub piece-size-requires : goal.piece-size-requires
piece-size-requires c = omega arith

pub copy_piece-requires : goal.copy_piece-requires
copy_piece-requires c =
    let a = c.args in
    let l = c.loop-done in
    let size = c.piece-size.ensures in
    let fits : l.done + c.piece-size.result ≤ a.count = omega (arith, size.within, c.loop-done-test.true) in
    let there = source_there a.self.now a.from.0 a.to.0 c.requires.apart c.requires.source c.requires.target a.from_offset a.to_offset a.count c.requires.there c.requires.room
    l.self l.done c.piece-size.result l.invariant.copied fits in
    let same = ap length (same_source a.self.now a.from.0 a.to.0 c.requires.apart c.requires.source c.requires.target a.from_offset a.to_offset a.count c.requires.there c.requires.room
    l.self l.done c.piece-size.result l.invariant.copied fits) in
    let here = target_there a.self.now a.from.0 a.to.0 c.requires.apart c.requires.source c.requires.target a.from_offset a.to_offset a.count c.requires.there c.requires.room
    l.self l.done c.piece-size.result l.invariant.copied fits in
    let long = target_long a.self.now a.from.0 a.to.0 c.requires.apart c.requires.source c.requires.target a.from_offset a.to_offset a.count c.requires.there c.requires.room
    l.self l.done c.piece-size.result l.invariant.copied fits in
    record {
      apart = c.requires.apart;
      source = there;
      target = here;
      some = size.some;
      from_page = size.source;
      to_page = size.target;
      there = omega (arith, same, fits, c.requires.there);
      room = omega (arith, long, fits, c.requires.room);
    }

pub loop-done-preserved : goal.loop-done-preserved
loop-done-preserved c =
    let a = c.args in
    let l = c.loop-done in
    let fits : l.done + c.piece-size.result ≤ a.count = omega (arith, c.piece-size.ensures.within, c.loop-done-test.true) in
    record {
      within = fits;
      copied = c.copy_piece.ensures
          ∙ copied_more a.self.now a.from.0 a.to.0 c.requires.apart c.requires.source c.requires.target a.from_offset a.to_offset a.count c.requires.there c.requires.room
          l.self l.done c.piece-size.result l.invariant.copied fits;
    }

pub returns-clause-part : goal.returns-clause-part
returns-clause-part c =
    let a = c.args in
    let l = c.loop-done in
    let all : l.done ≤ a.count = l.invariant.within in
    subst (λ n. PartBecomes (space_at a.self.now a.to.0).payer (part_with_bytes (part (space_at a.self.now a.to.0).payer a.self.now) a.to.0 a.to_offset
    (slice_range (space_at a.self.now a.from.0).bytes a.from_offset (a.from_offset + n))) a.self.now l.self) (done_all l.done a.count c.loop-done-test.false all)
    (subst (PartBecomes (space_at a.self.now a.to.0).payer (part_with_bytes (part (space_at a.self.now a.to.0).payer a.self.now) a.to.0 a.to_offset
    (slice_range (space_at a.self.now a.from.0).bytes a.from_offset (a.from_offset + l.done))) a.self.now) (sym l.invariant.copied)
    (copied_part a.self.now a.from.0 a.to.0 c.requires.apart c.requires.source c.requires.target a.from_offset a.to_offset a.count c.requires.there c.requires.room l.done))
