-- The replies and the bytes are computed, down to their digits.
use Rattle.std.proofs.Common.{refl}
use Rattle.std.specs.Fmt.{digits}
use Rattle.trade_base.specs.Bytes.{with_bytes}
use Rattle.own_model.specs.OwnState.{with_part}
use Rattle.own_model.specs.Reply.{hex_text}
use Rattle.own_model.specs.Zeros.{zeros}
use Rattle.own_model.proofs.buffers.buffer_is_shared_with_its_session.Goals as goal

pub returns-clause-shared : goal.returns-clause-shared
unfolding digits hex_text with_bytes with_part zeros
returns-clause-shared c = refl

pub returns-clause-order : goal.returns-clause-order
unfolding digits hex_text with_bytes with_part zeros
returns-clause-order c = refl

pub returns-clause-kept : goal.returns-clause-kept
unfolding digits hex_text with_bytes with_part zeros
returns-clause-kept c = refl

pub returns-clause-bytes : goal.returns-clause-bytes
unfolding digits hex_text with_bytes with_part zeros
returns-clause-bytes c = refl

pub returns-clause-capability : goal.returns-clause-capability
unfolding digits hex_text with_bytes with_part zeros
returns-clause-capability c = refl
