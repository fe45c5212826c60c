-- The client is taken out.
use Rattle.std.specs.Prelude.{None}
use Rattle.budget_least.proofs.BoundRunLemmas.{client_set}
use Rattle.budget_least.proofs.binding_run.BindingRun.take_known.Goals as goal

pub returns-clause-taken : goal.returns-clause-taken
returns-clause-taken c = client_set _ c.args.self.now c.args.component c.take.new.self None c.self.view_is c.self.invariant c.requires c.take.ensures.after
