-- Each law is a lemma that callers cite as well.
use Rattle.server_frame.proofs.PlaceLaws.{table_has_place, opens_an_account}
use Rattle.server_frame.proofs.theorems.sessions_find_places.Goals as goal

pub returns-clause-table : goal.returns-clause-table
returns-clause-table g c = table_has_place g.S.Service.IsKept

pub returns-clause-opens : goal.returns-clause-opens
returns-clause-opens g c = opens_an_account g.S.Service.Value
