-- Fresh parts are a sound core, which starts with them.
use Rattle.std.proofs.Common.{ap, subst, sym, ◌∙◌}
use Rattle.pd_core.specs.Core.{world_of, IsCore}
use Rattle.pd_core.specs.SessionCalls.{Agrees}
use Rattle.pd_core.proofs.CoreFreshLemmas.{fresh_core, fresh_world}
use Rattle.pd_core.proofs.machine.Core.from_parts.Goals as goal

pub invariant_of-result : goal.invariant_of-result
invariant_of-result g c =
    subst (λ items. IsCore c.args.memory items × Agrees (g.R.Router.places c.args.routes) (g.R.Router.leads c.args.routes) c.args.memory items) (sym c.into_boxed_slice.ensures.items)
    (fresh_core c.args.memory c.args.components.items c.requires.fresh, c.requires.leads)

pub returns : goal.returns
returns g c = record { started = ap (world_of (g.R.Router.places c.args.routes) c.args.memory) c.into_boxed_slice.ensures.items ∙ fresh_world c.args.memory c.args.components.items c.requires.fresh (g.R.Router.places c.args.routes) }
