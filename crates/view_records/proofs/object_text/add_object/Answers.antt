-- The members in their order are the object's.
use Rattle.std.proofs.Common.{arith}
use Rattle.std.proofs.lemmas.Grind.{common_steps}
use Rattle.view_records.specs.Cells.{cells_data}
use Rattle.view_records.proofs.OrderLemmas.{in_order}
use Rattle.view_records.proofs.object_text.add_object.Goals as goal

pub returns : goal.returns
returns c = rw (in_order (cells_data c.args.cells.now) c.requires) (grind (arith, common_steps))
