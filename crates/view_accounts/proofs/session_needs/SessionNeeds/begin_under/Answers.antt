-- A new meter is put at the session's place.
use Rattle.std.proofs.Common.{Some, refl}
use Rattle.std.specs.Option.{option_copied}
use Rattle.std.proofs.lemmas.Result.{on_ok_weaker}
use Rattle.view_accounts.specs.Peaks.{session_at}
use Rattle.view_accounts.specs.SessionNeeds.{Begins}
use Rattle.view_accounts.specs.SessionTable.{value_at}
use Rattle.view_accounts.specs.declared.session_needs.MeteredSession.{MeteredSession}
use Rattle.view_accounts.proofs.SessionNeedLemmas.{begins_there, set_there}
use Rattle.view_accounts.proofs.session_needs.SessionNeeds.begin_under.Goals as goal

pub returns-clause-opened : goal.returns-clause-opened
returns-clause-opened g c =
    let new : MeteredSession = record { earlier = c.args.line; need = c.least.result; meter = c.in_ok-meter.meter } in
    on_ok_weaker c.set.result
    (λ set c' q.
    set_there c.args.component c.args.selector (Begins c.args.line (session_at c.args.component c.args.selector c.args.core.now)) c' q (value_at c.args.self.now.opened c' q) (value_at c.set.new.self c' q) (Some new) (set c' q)
    (λ one other.
    begins_there c.in-Some.account (option_copied c.session_kinds-kinds.result) (session_at c.args.component c.args.selector c.args.core.now) (value_at c.args.self.now.opened c' q) new c.args.line refl c.in-Some.ensures c.session_kinds-kinds.ensures c.least.ensures c.in_ok-meter.ensures))
    c.set.ensures
