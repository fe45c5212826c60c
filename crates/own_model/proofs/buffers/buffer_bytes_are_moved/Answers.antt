-- What goes between a buffer and a file.
use Rattle.own_model.proofs.BufferErrorLemmas.{puts_are_writes, gets_copy}
use Rattle.own_model.proofs.buffers.buffer_bytes_are_moved.Goals as goal

pub returns-clause-put : goal.returns-clause-put
returns-clause-put c = puts_are_writes

pub returns-clause-get : goal.returns-clause-get
returns-clause-get c = gets_copy
