-- A dataspace or an RPC object is taken out, and nothing else is there.
use Rattle.std.proofs.Common.{Some, sym, ap, ◌∙◌}
use Rattle.pd_core.proofs.ExitReleaseLemmas.{free_takes_out, capfree_takes_out}
use Rattle.pd_core.proofs.script.Script.release.Goals as goal

pub returns-in-Some-Dataspace-clause-gone : goal.returns-in-Some-Dataspace-clause-gone
returns-in-Some-Dataspace-clause-gone c = (free_takes_out _ c.requires.sound _ (sym c.in-Some-Dataspace.ensures.found ∙ ap (λ cap. Some cap) c.in-Some-Dataspace.field-0-is) c.free.ensures).gone

pub returns-in-Some-Dataspace-clause-fewer : goal.returns-in-Some-Dataspace-clause-fewer
returns-in-Some-Dataspace-clause-fewer c = (free_takes_out _ c.requires.sound _ (sym c.in-Some-Dataspace.ensures.found ∙ ap (λ cap. Some cap) c.in-Some-Dataspace.field-0-is) c.free.ensures).fewer

pub returns-in-Some-RpcObject-clause-gone : goal.returns-in-Some-RpcObject-clause-gone
returns-in-Some-RpcObject-clause-gone c = (capfree_takes_out _ c.requires.sound (sym c.in-Some-RpcObject.ensures.found ∙ ap (λ cap. Some cap) c.in-Some-RpcObject.field-0-is) c.capfree.ensures).gone

pub returns-in-Some-RpcObject-clause-fewer : goal.returns-in-Some-RpcObject-clause-fewer
returns-in-Some-RpcObject-clause-fewer c = (capfree_takes_out _ c.requires.sound (sym c.in-Some-RpcObject.ensures.found ∙ ap (λ cap. Some cap) c.in-Some-RpcObject.field-0-is) c.capfree.ensures).fewer
