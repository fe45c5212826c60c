-- The meter is put back where it was taken out.
use Rattle.std.proofs.Common.{◌==◌, ◌&&◌, Some, refl, sym, ◌∙◌}
use Rattle.std.proofs.lemmas.Result.{on_ok_weaker}
use Rattle.view_accounts.specs.Peaks.{session_at}
use Rattle.view_accounts.specs.SessionNeeds.{Raises}
use Rattle.view_accounts.specs.SessionTable.{value_at}
use Rattle.view_accounts.specs.declared.session_needs.MeteredSession.{MeteredSession}
use Rattle.view_accounts.proofs.SessionNeedLemmas.{raises_there, put_back, set_there}
use Rattle.view_accounts.proofs.session_needs.SessionNeeds.raise.Goals as goal

pub returns-clause-opened : goal.returns-clause-opened
returns-clause-opened g c =
    let new : MeteredSession = record { earlier = c.in-Some-take.session.earlier; need = c.least-session.result; meter = c.raise.new.self } in
    on_ok_weaker c.set.result
    (λ set c' q.
    set_there c.args.component c.args.selector (Raises (session_at c.args.component c.args.selector c.args.core.now)) c' q (value_at c.args.self.now.opened c' q) (value_at c.set.new.self c' q) (Some new)
    (put_back (c' == c.args.component && q == c.args.selector) (Some new) (value_at c.args.self.now.opened c' q) (value_at c.set.new.self c' q) (value_at c.take.new.self c' q) (c.take.ensures.left c' q) (set c' q))
    (λ one other.
    raises_there c.in-Some.account (session_at c.args.component c.args.selector c.args.core.now) (value_at c.args.self.now.opened c' q) c.in-Some-take.session new refl c.in-Some.ensures
    ((λ i. value_at c.args.self.now.opened (one i) (other i)) ∙ sym c.in-Some-take.ensures.taken) c.least-session.ensures c.raise.ensures.raised c.raise.ensures.refused))
    c.set.ensures
