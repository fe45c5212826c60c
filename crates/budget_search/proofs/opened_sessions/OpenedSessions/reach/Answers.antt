-- The session that the selector names, or none.
use Rattle.std.proofs.Common.{ap, arith, sym, ◌∙◌}
use Rattle.budget_meter.specs.Needs.{amounts_of}
use Rattle.budget_search.proofs.ReachLemmas.{one_of, reaches_at, reaches_past}
use Rattle.budget_search.proofs.opened_sessions.OpenedSessions.reach.Goals as goal

pub returns-then-owner-len-clause-sessions : goal.returns-then-owner-len-clause-sessions
returns-then-owner-len-clause-sessions c =
    reaches_past c.args.self.now.opened.items c.args.self.now.owners.items c.args.selector c.args.place c.in-Some.owner (sym c.in-Some.is ∙ c.owner.ensures)
    (omega (arith, c.if-owner-len.true, c.len.ensures, c.args.self.now.opened.ok.0))

pub returns-clause-sessions : goal.returns-clause-sessions
returns-clause-sessions c =
    reaches_at c.args.self.now.opened.items c.args.self.now.owners.items c.args.selector c.args.place c.in-Some.owner c.index_mut-opened.result.now _
    (sym c.in-Some.is ∙ c.owner.ensures) (omega (arith, c.if-owner-len.false, c.len.ensures, c.args.self.now.opened.ok.0)) c.index_mut-opened.ensures.value
    (ap (one_of c.index_mut-opened.result.now.step c.index_mut-opened.result.now.selector (amounts_of c.index_mut-opened.result.now.donation)
    (amounts_of c.index_mut-opened.result.now.raised)) c.in_ok-push.ensures.items)
