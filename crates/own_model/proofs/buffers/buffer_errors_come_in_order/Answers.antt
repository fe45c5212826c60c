-- The table of requests of a buffer.
use Rattle.own_model.proofs.BufferErrorLemmas.{buffer_errors_in_order, other_buffers_served}
use Rattle.own_model.proofs.buffers.buffer_errors_come_in_order.Goals as goal

pub returns-clause-order : goal.returns-clause-order
returns-clause-order c = buffer_errors_in_order

pub returns-clause-others : goal.returns-clause-others
returns-clause-others c = other_buffers_served
