-- The text needs no escapes.
use Rattle.std.proofs.Common.{arith}
use Rattle.std.proofs.lemmas.Grind.{common_steps}
use Rattle.view_records.proofs.TokenLemmas.{plain_text}
use Rattle.view_records.proofs.object_text.put_plain.Goals as goal

pub returns : goal.returns
returns c = rw (plain_text c.args.shown.now c.requires) (grind (arith, common_steps))
