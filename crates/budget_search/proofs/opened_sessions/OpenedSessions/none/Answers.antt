-- Nothing is opened, and nothing is named.
use Rattle.budget_search.proofs.ReachLemmas.{none_opened}
use Rattle.budget_search.proofs.opened_sessions.OpenedSessions.none.Goals as goal

pub returns : goal.returns
returns c = none_opened c.new.result.items c.in_ok-unnamed.field-0.items c.new.ensures.items c.in_ok-unnamed.ensures
