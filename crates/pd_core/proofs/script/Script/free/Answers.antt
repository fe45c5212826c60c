-- A free over the memory and the tables.
use Rattle.std.proofs.Common.{ap, sym, refl}
use Rattle.std.specs.Prelude.{Err}
use Rattle.trade_base.specs.declared.refusal.Refusal.TheVariants.{InvalidCap}
use Rattle.dataspace_core.specs.Store.{part_without_space}
use Rattle.dataspace_core.proofs.PartLaws.{paid_in_part}
use Rattle.pd_core.proofs.ScriptOwnLemmas.{has_bytes, for_payer}
use Rattle.pd_core.proofs.ScriptSettleLemmas.{settled}
use Rattle.pd_core.proofs.AccountLemmas.{taken_dataspace, free_refused, free_settles}
use Rattle.pd_core.proofs.ScriptLemmas.{finishes, refuses}
use Rattle.pd_core.proofs.script.Script.free.Goals as goal

pub returns-in_default : goal.returns-in_default
returns-in_default c =
    refuses (Err InvalidCap) refl c.requires refl (ap (λ caps. record c.args.self.now { caps = caps }) c.in_default.ensures.none)
    (free_refused _ _ _ _ _ c.requires.own _ (sym c.in_default.ensures.found))

pub free-requires : goal.free-requires
free-requires c = (paid_in_part _ _ _ _ (has_bytes _ _ _ _ _ c.requires.own _ _ (taken_dataspace _ _ c.in-Some.ensures.found))).exists

pub returns : goal.returns
returns c =
    let named = taken_dataspace _ _ c.in-Some.ensures.found in
    let paid = paid_in_part _ _ _ _ (has_bytes _ _ _ _ _ c.requires.own _ _ named) in
    let becomes = for_payer (λ p. part_without_space p c.in-Some.space.0) paid.payer c.free.ensures.part in
    finishes _ _ c.requires becomes
    (settled becomes.own c.in-Some.ensures.gone c.detach_all.ensures (free_settles _ _ _ _ _ c.requires.own _ _ named))
