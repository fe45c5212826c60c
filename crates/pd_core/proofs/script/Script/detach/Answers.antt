-- A region goes.
use Rattle.std.proofs.Common.{refl, ap}
use Rattle.dataspace_core.proofs.PartLaws.{becomes_same}
use Rattle.pd_core.proofs.ScriptSettleLemmas.{settled}
use Rattle.pd_core.proofs.RegionCallLemmas.{detach_refused, detach_settles}
use Rattle.pd_core.proofs.ScriptLemmas.{finishes, refuses}
use Rattle.pd_core.proofs.script.Script.detach.Goals as goal

pub returns-in_err-detach : goal.returns-in_err-detach
returns-in_err-detach c =
    refuses c.from_residual.result c.from_residual.ensures.1 c.requires refl (ap (λ r. record c.args.self.now { regions = r }) c.in_err-detach.ensures.err)
    (detach_refused _ _ _ _ _ c.requires.own c.args.address _ c.in_err-detach.ensures.refusal)

pub returns : goal.returns
returns c =
    finishes _ _ c.requires (becomes_same _ c.args.memory.now)
    (settled refl refl c.in_ok-detach.ensures.ok (detach_settles _ _ _ _ _ c.requires.own c.args.address c.in_ok-detach.ensures.refusal))
