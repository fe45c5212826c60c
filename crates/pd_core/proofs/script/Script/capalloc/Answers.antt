-- An RPC object over the memory and the tables.
use Rattle.std.proofs.Common.{refl}
use Rattle.dataspace_core.specs.Store.{part}
use Rattle.dataspace_core.proofs.PartLaws.{open_in_part}
use Rattle.pd_core.proofs.ScriptSettleLemmas.{settled}
use Rattle.pd_core.proofs.AccountLemmas.{capalloc_refused, capalloc_settles, cap_fits, has_place}
use Rattle.pd_core.proofs.ScriptLemmas.{finishes, refuses}
use Rattle.pd_core.proofs.script.Script.capalloc.Goals as goal

pub charge_cap-requires : goal.charge_cap-requires
charge_cap-requires c = open_in_part _ _ c.requires.own.paid.is_open

pub returns-in_err-charge_cap : goal.returns-in_err-charge_cap
unfolding part
returns-in_err-charge_cap c =
    refuses c.from_residual.result c.from_residual.ensures.1 c.requires c.in_err-charge_cap.ensures.err refl
    (capalloc_refused _ _ _ _ _ c.requires.own _ c.in_err-charge_cap.ensures.refusal)

pub insert-requires : goal.insert-requires
unfolding part
insert-requires c = record { room = has_place _ _ _ _ _ c.requires.own _ (cap_fits _ _ _ _ _ c.requires.own c.in_ok-charge_cap.ensures.refusal) }

pub returns : goal.returns
unfolding part
returns c =
    finishes _ _ c.requires c.in_ok-charge_cap.ensures.part
    (settled c.in_ok-charge_cap.ensures.part.own c.insert.ensures.taken refl
    (capalloc_settles _ _ _ _ _ c.requires.own c.in_ok-charge_cap.ensures.refusal _ c.insert.ensures.least))
