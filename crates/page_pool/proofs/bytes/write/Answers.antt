-- The part is written through a range of the bytes.
use Rattle.std.proofs.Common.{◌+◌, ◌-◌, length, refl, arith}
use Rattle.page_pool.proofs.ByteLemmas.{put_part}
use Rattle.page_pool.proofs.bytes.write.Goals as goal

pub returns : goal.returns
returns c =
    rw c.copy_from_slice.ensures.after (put_part c.args.bytes.now c.args.bytes.now c.args.part.now c.args.start (c.args.start + length c.args.part.now - c.args.start) refl (omega arith))
