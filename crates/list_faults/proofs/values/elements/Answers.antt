use Rattle.std.proofs.Common.{map, ap, ◌∙◌}
use Rattle.serde_json.specs.View.{view}
use Rattle.list_faults.proofs.ValueLemmas.{elements_there}
use Rattle.list_faults.proofs.values.elements.Goals as goal

pub returns-in-Some : goal.returns-in-Some
returns-in-Some c = ap (map view) c.as_slice.ensures.value ∙ elements_there _ _ c.in-Some.ensures
