-- A dataspace is attached.
use Rattle.std.proofs.Common.{refl, ap, arith}
use Rattle.dataspace_core.proofs.PartLaws.{becomes_same}
use Rattle.pd_core.proofs.ScriptSettleLemmas.{settled}
use Rattle.pd_core.proofs.RegionCallLemmas.{some_pages, attach_at_unnamed, attach_at_refused, attach_at_settles}
use Rattle.pd_core.proofs.ScriptLemmas.{finishes, refuses}
use Rattle.pd_core.proofs.script.Script.attach_at.Goals as goal

pub returns-in_err-space : goal.returns-in_err-space
returns-in_err-space c =
    refuses c.from_residual.result c.from_residual.ensures.1 c.requires refl refl
    (attach_at_unnamed _ _ _ _ _ c.requires.own c.args.selector _ c.in_err-space.ensures.sized c.args.address)

pub attach_at-requires-clause-some : goal.attach_at-requires-clause-some
attach_at-requires-clause-some c =
    some_pages _ _ _ _ _ c.requires.own _ _ c.in_ok-space.ensures.sized

pub attach_at-requires-clause-few : goal.attach_at-requires-clause-few
attach_at-requires-clause-few c =
    let few = c.in_ok-space.ensures.few in
    omega (arith, few, c.requires.heaps.sliced.maps.pages)

pub returns-in_err-address : goal.returns-in_err-address
returns-in_err-address c =
    refuses c.from_residual-in_err-address.result c.from_residual-in_err-address.ensures.1 c.requires refl (ap (λ r. record c.args.self.now { regions = r }) c.in_err-address.ensures.err)
    (attach_at_refused _ _ _ _ _ c.requires.own _ _ c.in_ok-space.ensures.sized c.args.address _ c.in_err-address.ensures.refusal)

pub returns : goal.returns
returns c =
    finishes _ _ c.requires (becomes_same _ c.args.memory.now)
    (settled refl refl c.in_ok-address.ensures.attached
    (attach_at_settles _ _ _ _ _ c.requires.own _ _ c.in_ok-space.ensures.sized c.args.address _ c.in_ok-address.ensures.address c.in_ok-address.ensures.refusal))
