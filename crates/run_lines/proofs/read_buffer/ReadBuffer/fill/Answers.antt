-- The bytes that were read stand behind those that were ahead.
use Rattle.std.proofs.Common.{◌≡◌, ◌+◌, ◌-◌, ◌++◌, ◌∙◌, refl, ap, take, length, slice_range, arith, length-append, sym}
use Rattle.std.proofs.lemmas.List.{take_at}
use Rattle.std.proofs.lemmas.Result.{err_from_is_err_and}
use Rattle.run_devices.proofs.BlockLemmas.{slice_range-grown, slice_range-kept, Keeps-grown}
use Rattle.run_lines.proofs.read_buffer.ReadBuffer.fill.Goals as goal
use borrow.Rule.Slice.PartMut.{put_mid, post_of}

pub returns-in_err-count-clause-grows : goal.returns-in_err-count-clause-grows
returns-in_err-count-clause-grows g c =
    let p = err_from_is_err_and c.from_residual.result c.from_residual.ensures.1 in
    let array = c.move_to_front.new.bytes in
    let behind = c.read.new.buffer ++ post_of c.move_to_front.result.1 (16384 - c.move_to_front.result.1) array in
    rw (p.1) (slice_range-kept array behind c.move_to_front.result.0 c.move_to_front.result.1 (omega arith) ∙ c.move_to_front.ensures.kept ∙ c.self.view_is, c.in_err-count.ensures.bytes)

pub returns-clause-grows : goal.returns-clause-grows
returns-clause-grows g c =
    let read = take c.in_ok-count.count c.read.new.buffer in
    let grown : slice_range (put_mid c.move_to_front.result.1 (16384 - c.move_to_front.result.1) c.move_to_front.new.bytes c.read.new.buffer) c.move_to_front.result.0 (c.move_to_front.result.1 + c.in_ok-count.count) ≡ c.args.self.now ++ read =
    slice_range-grown _ _ _ _ _ _ c.move_to_front.ensures.order (omega arith) c.in_ok-count.ensures.bound.0
    ∙ ap (λ ahead. ahead ++ read) (c.move_to_front.ensures.kept ∙ c.self.view_is) in
    record {
      kept = rw grown (take_at _ _ _ refl);
      count = ap length grown ∙ length-append c.args.self.now read ∙ ap (λ m. length c.args.self.now + m) (sym c.in_ok-count.ensures.bound.1);
      come = Keeps-grown _ _ _ _ _ grown c.in_ok-count.ensures.bytes.0;
      end = λ none. c.in_ok-count.ensures.bytes.1 none (omega arith);
    }
