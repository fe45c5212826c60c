use Rattle.list_parser.proofs.JsonLemmas.{json_in-text, json_in-none}
use Rattle.list_parser.proofs.list.read_json.Goals as goal

pub returns-in-Ok-clause-ok : goal.returns-in-Ok-clause-ok
returns-in-Ok-clause-ok c = json_in-text _ _ c.in-Ok.ensures.ok.0 c.in-Ok.ensures.ok.1

pub returns-after-matches-clause-none : goal.returns-after-matches-clause-none
returns-after-matches-clause-none c = λ other. json_in-none _ (c.in-Err.ensures.err (λ is. cc (c.is_memory.ensures.1 is)))
