-- One session more.
use Rattle.std.proofs.Common.{sym, ap, ◌∙◌}
use Rattle.own_model.specs.Amounts.{no_amounts}
use Rattle.own_model.specs.SessionArgs.{arguments_of}
use Rattle.budget_meter.specs.NeededAmounts.{amount_tests}
use Rattle.budget_search.specs.ReachedSessions.{sessions_of}
use Rattle.budget_search.proofs.ReachLemmas.{one_of, opens_one}
use Rattle.budget_search.proofs.SessionLemmas.{arguments_named}
use Rattle.budget_search.proofs.opened_sessions.OpenedSessions.open.Goals as goal

pub returns-clause-sessions : goal.returns-clause-sessions
returns-clause-sessions c =
    let named = arguments_named c.in-Some.donation _ (sym (ap amount_tests c.in-Some.is) ∙ c.named_by.ensures) in
    opens_one (sessions_of c.args.self.now) c.set_owner.new.self.opened.items c.push.new.self.items c.set_owner.new.self.owners.items _ c.args.step c.in-Some-selector.selector
    c.count-count.result (arguments_of c.args.args.now) c.args.selector named.0 named.1.0 c.in-Some-selector.is c.set_owner.ensures c.count-count.ensures
    (λ i. one_of c.args.step c.in-Some-selector.selector (named.1.1 i) no_amounts (c.new.ensures.items i))
    c.in_ok-push.ensures.items
