-- The bytes that are written are those that were decoded.
use Rattle.text_codec.proofs.HexLemmas.{decoded_are}
use Rattle.file_service.proofs.service.write_by.Goals as goal

pub returns-clause-serves : goal.returns-clause-serves
returns-clause-serves g c = rw (← decoded_are c.args.hex.now _ c.decode_hex.ensures) c.write.ensures.serves
