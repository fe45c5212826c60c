-- A write that fails in the lines loses the reply.
use Rattle.run_devices.proofs.GatheredLemmas.{Tells-front, told_err, told_more}
use Rattle.run_devices.proofs.write_buffer.WriteBuffer.put_answer.Goals as goal

pub returns-in_err-put-clause-told : goal.returns-in_err-put-clause-told
returns-in_err-put-clause-told g c = told_err _ _ _ c.from_residual.ensures.1 (_, Tells-front _ (c.in_err-put.ensures.told.1))

pub returns-clause-told : goal.returns-clause-told
returns-clause-told g c = told_more _ _ _ _ c.in_ok-put.ensures.told c.put_reply-2.ensures.told
