-- The session by its selector and its account.
use Rattle.std.proofs.Common.{◌∙◌}
use Rattle.view_runs.proofs.RowLemmas.{session_there}
use Rattle.view_runs.proofs.trace_row.session_at.Goals as goal

pub returns-in-Some : goal.returns-in-Some
returns-in-Some g c = session_there c.args.selector _ _ c.in-Some.ensures

pub returns-in-None : goal.returns-in-None
returns-in-None g c = session_there c.args.selector _ _ c.in-None.ensures
