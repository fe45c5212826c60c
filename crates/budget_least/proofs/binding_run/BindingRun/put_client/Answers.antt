-- The client is written.
use Rattle.std.proofs.Common.{refl}
use Rattle.std.specs.Prelude.{Some}
use Rattle.budget_least.proofs.BoundRunLemmas.{client_set}
use Rattle.budget_least.proofs.binding_run.BindingRun.put_client.Goals as goal

pub returns : goal.returns
returns c = client_set _ c.args.self.now c.args.component (Some c.args.client) (Some c.args.client) c.self.view_is c.self.invariant c.requires refl
