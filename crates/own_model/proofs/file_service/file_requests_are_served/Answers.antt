-- The replies are computed, down to their digits.
use Rattle.std.proofs.Common.{refl}
use Rattle.std.specs.Fmt.{digits}
use Rattle.trade_base.specs.Bytes.{with_bytes}
use Rattle.own_model.specs.Reply.{hex_text}
use Rattle.own_model.proofs.file_service.file_requests_are_served.Goals as goal

pub returns-clause-writes : goal.returns-clause-writes
unfolding digits hex_text with_bytes
returns-clause-writes c = refl

pub returns-clause-reads : goal.returns-clause-reads
unfolding digits hex_text with_bytes
returns-clause-reads c = refl

pub returns-clause-names : goal.returns-clause-names
unfolding digits hex_text with_bytes
returns-clause-names c = refl

pub returns-clause-clears : goal.returns-clause-clears
unfolding digits hex_text with_bytes
returns-clause-clears c = refl

pub returns-clause-both : goal.returns-clause-both
unfolding digits hex_text with_bytes
returns-clause-both c = refl

pub returns-clause-bytes : goal.returns-clause-bytes
unfolding digits hex_text with_bytes
returns-clause-bytes c = refl

pub returns-clause-capability : goal.returns-clause-capability
unfolding digits hex_text with_bytes
returns-clause-capability c = refl

pub returns-clause-least : goal.returns-clause-least
unfolding digits hex_text with_bytes
returns-clause-least c = refl
