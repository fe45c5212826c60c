-- A selector, or a number above all selectors.
use Rattle.std.proofs.Common.{arith}
use Rattle.budget_search.proofs.ReachLemmas.{names_at, names_past}
use Rattle.budget_search.proofs.opened_sessions.OpenedSessions.set_owner.Goals as goal

pub returns-then-place-len : goal.returns-then-place-len
returns-then-place-len c =
    names_at _ c.args.self.now.owners.items c.args.selector c.args.owner (omega (arith, c.if-place-len.true, c.len.ensures, c.args.self.now.owners.ok.0))

pub returns-else-place-len : goal.returns-else-place-len
returns-else-place-len c =
    names_past _ c.args.self.now.owners.items c.args.selector c.args.owner (omega (arith, c.if-place-len.false, c.len.ensures, c.args.self.now.owners.ok.0))
