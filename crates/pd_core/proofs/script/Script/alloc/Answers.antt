-- A dataspace over the memory and the tables.
use Rattle.std.proofs.Common.{refl}
use Rattle.own_model.proofs.NatMapLemmas.{apart_from_free}
use Rattle.dataspace_core.specs.Store.{part}
use Rattle.dataspace_core.proofs.PartLaws.{open_in_part}
use Rattle.dataspace_core.proofs.PartLemmas.{part-fresh}
use Rattle.pd_core.proofs.ScriptSettleLemmas.{settled}
use Rattle.pd_core.proofs.AccountLemmas.{alloc_refused, alloc_settles, alloc_fits, has_place}
use Rattle.pd_core.proofs.ScriptLemmas.{finishes, refuses}
use Rattle.pd_core.proofs.script.Script.alloc.Goals as goal

pub alloc-requires : goal.alloc-requires
alloc-requires c = open_in_part _ _ c.requires.own.paid.is_open

pub returns-in_err-space : goal.returns-in_err-space
unfolding part
returns-in_err-space c =
    refuses c.from_residual.result c.from_residual.ensures.1 c.requires c.in_err-space.ensures.err refl
    (alloc_refused _ _ _ _ _ c.requires.own c.args.bytes _ c.in_err-space.ensures.refusal)

pub insert-requires : goal.insert-requires
unfolding part
insert-requires c = record { room = has_place _ _ _ _ _ c.requires.own _ (alloc_fits _ _ _ _ _ c.requires.own c.args.bytes c.in_ok-space.ensures.refusal) }

pub returns : goal.returns
unfolding part
returns c =
    finishes _ _ c.requires c.in_ok-space.ensures.part
    (settled c.in_ok-space.ensures.part.own c.insert.ensures.taken refl
    (alloc_settles _ _ _ _ _ c.requires.own c.args.bytes c.in_ok-space.ensures.refusal _ (part-fresh c.args.memory.now _ _ c.in_ok-space.ensures.fresh)
    (λ q of key names. apart_from_free c.args.memory.now.spaces _ key c.in_ok-space.ensures.fresh (c.requires.lent q of key names).there) _ c.insert.ensures.least))
