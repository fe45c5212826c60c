-- A block of the heap is taken.
use Rattle.pd_core.proofs.HeapOutcomeLemmas.{new_refuses, new_finishes}
use Rattle.pd_core.proofs.ScriptLemmas.{refuses}
use Rattle.pd_core.proofs.script.Script.new_block.Goals as goal

pub returns-in_err-address : goal.returns-in_err-address
returns-in_err-address c =
    refuses c.from_residual.result c.from_residual.ensures.1 c.requires c.in_err-address.ensures.memory_err (λ i. record c.args.self.now { regions = c.in_err-address.ensures.map_err i; heap = c.in_err-address.ensures.err i })
    (new_refuses _ _ c.requires c.args.bytes _ c.in_err-address.ensures.refusal)

pub returns : goal.returns
returns c = new_finishes _ _ c.requires c.in_ok-address.ensures.sound c.in_ok-address.ensures.payer c.in_ok-address.ensures.others c.args.bytes _ c.in_ok-address.ensures.refusal c.in_ok-address.ensures.large c.in_ok-address.ensures.small c.in_ok-address.ensures.grown
