-- What is noted of the session is raised, or it is gone.
use Rattle.std.proofs.Common.{sym, ap}
use Rattle.std.specs.Prelude.{None}
use Rattle.std.specs.Option.{option_map}
use Rattle.view_accounts.specs.Kept.{noted_in}
use Rattle.view_accounts.specs.Peaks.{session_at}
use Rattle.view_accounts.specs.SessionTable.{value_at}
use Rattle.view_accounts.proofs.KeptLemmas.{found_named, raised_none}
use Rattle.view_accounts.proofs.peaks.Peaks.raise_session.Goals as goal

pub returns-in_default-clause-sessions : goal.returns-in_default-clause-sessions
returns-in_default-clause-sessions g c = λ k q.
    let world = c.args.core.now in
    found_named c.args.component c.args.selector k q (value_at c.args.self.now.sessions) (λ n m. session_at n m world) None (value_at c.take.new.self k q) (c.take.ensures.left k q)
    (raised_none (session_at c.args.component c.args.selector world) _ (ap (option_map noted_in) (sym c.in_default.ensures.taken)))
