-- A sliced block is given back.
use Rattle.pd_core.proofs.SlicedLemmas.{sdel_refused, sdel_finishes}
use Rattle.pd_core.proofs.ScriptLemmas.{refuses}
use Rattle.pd_core.proofs.script.Script.sdel.Goals as goal

pub returns-in_err-free : goal.returns-in_err-free
returns-in_err-free c =
    refuses c.from_residual.result c.from_residual.ensures.1 c.requires c.in_err-free.ensures.memory_err (λ i. record c.args.self.now { regions = c.in_err-free.ensures.map_err i; sliced = c.in_err-free.ensures.err i })
    (sdel_refused _ _ c.requires c.args.address _ c.in_err-free.ensures.refusal)

pub returns : goal.returns
returns c = sdel_finishes _ _ c.requires c.in_ok-free.ensures.sound c.in_ok-free.ensures.payer c.in_ok-free.ensures.others c.args.address c.in_ok-free.ensures.given
