-- Each of these texts is read by computation.
use Rattle.std.proofs.Common.{refl}
use Rattle.own_model.proofs.rows.arguments_are_read.Goals as goal

pub returns-clause-address : goal.returns-clause-address
returns-clause-address c = refl

pub returns-clause-zeros : goal.returns-clause-zeros
returns-clause-zeros c = refl

pub returns-clause-at : goal.returns-clause-at
returns-clause-at c = refl

pub returns-clause-bytes : goal.returns-clause-bytes
returns-clause-bytes c = refl

pub returns-clause-heap_block : goal.returns-clause-heap_block
returns-clause-heap_block c = refl

pub returns-clause-heap_payload : goal.returns-clause-heap_payload
returns-clause-heap_payload c = refl

pub returns-clause-block : goal.returns-clause-block
returns-clause-block c = refl

pub returns-clause-payload : goal.returns-clause-payload
returns-clause-payload c = refl

pub returns-clause-addresses : goal.returns-clause-addresses
returns-clause-addresses c = refl

pub returns-clause-hex : goal.returns-clause-hex
returns-clause-hex c = refl

pub returns-clause-spaces : goal.returns-clause-spaces
returns-clause-spaces c = refl
