-- A write that fails in one part of the line loses the parts after it.
use Rattle.run_devices.proofs.GatheredLemmas.{Tells-more, Tells-front, told_err, told_more}
use Rattle.run_devices.proofs.write_buffer.WriteBuffer.put_parts.Goals as goal

pub returns-in_err-put-clause-told : goal.returns-in_err-put-clause-told
returns-in_err-put-clause-told g c =
    told_err _ _ _ c.from_residual.ensures.1 (_, Tells-front _ (Tells-front _ (Tells-front _ (c.in_err-put.ensures.told.1))))

pub returns-in_err-put-2-clause-told : goal.returns-in_err-put-2-clause-told
returns-in_err-put-2-clause-told g c =
    told_err _ _ _ c.from_residual-in_err-put-2.ensures.1
    (_, Tells-front _ (Tells-front _ (Tells-more c.in_ok-put.ensures.told (c.in_err-put-2.ensures.told.1))))

pub returns-in_err-put-3-clause-told : goal.returns-in_err-put-3-clause-told
returns-in_err-put-3-clause-told g c =
    told_err _ _ _ c.from_residual-in_err-put-3.ensures.1
    (_, Tells-front _ (Tells-more (Tells-more c.in_ok-put.ensures.told c.in_ok-put-2.ensures.told) (c.in_err-put-3.ensures.told.1)))

pub returns-clause-told : goal.returns-clause-told
returns-clause-told g c =
    told_more _ _ _ _ (Tells-more (Tells-more c.in_ok-put.ensures.told c.in_ok-put-2.ensures.told) c.in_ok-put-3.ensures.told) c.put-4.ensures.told
