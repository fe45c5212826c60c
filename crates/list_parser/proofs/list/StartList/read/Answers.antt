-- What the text's value says is listed.
use Rattle.serde_json.specs.View.{view}
use Rattle.list_parser.proofs.ListedLemmas.{read_listed}
use Rattle.list_parser.proofs.list.StartList.read.Goals as goal

pub returns-in-Ok-clause-listed : goal.returns-in-Ok-clause-listed
returns-in-Ok-clause-listed c = read_listed (view c.in-Ok.value) c.of_value.result c.of_value.ensures.ok
