-- An RPC object that goes.
use Rattle.std.proofs.Common.{ap, sym, refl, ◌∙◌}
use Rattle.std.specs.Prelude.{Err}
use Rattle.trade_base.specs.declared.refusal.Refusal.TheVariants.{InvalidCap}
use Rattle.dataspace_core.specs.Store.{part}
use Rattle.dataspace_core.proofs.PartLaws.{open_in_part}
use Rattle.pd_core.proofs.ScriptSettleLemmas.{settled}
use Rattle.pd_core.proofs.AccountLemmas.{found_rpc, has_spare, capfree_refused, capfree_settles}
use Rattle.pd_core.proofs.ScriptLemmas.{finishes, refuses}
use Rattle.pd_core.proofs.script.Script.capfree.Goals as goal

pub returns-then-not-take_rpc_object : goal.returns-then-not-take_rpc_object
returns-then-not-take_rpc_object c =
    refuses (Err InvalidCap) refl c.requires refl (ap (λ caps. record c.args.self.now { caps = caps }) (c.take_rpc_object.ensures.none c.if-not-take_rpc_object.true))
    (capfree_refused _ _ _ _ _ c.requires.own _ (sym c.take_rpc_object.ensures.found ∙ c.if-not-take_rpc_object.true))

pub credit_cap-requires-clause-open : goal.credit_cap-requires-clause-open
credit_cap-requires-clause-open c = open_in_part _ _ c.requires.own.paid.is_open

pub credit_cap-requires-clause-spare : goal.credit_cap-requires-clause-spare
unfolding part
credit_cap-requires-clause-spare c = has_spare _ _ _ _ _ c.requires.own _ (found_rpc _ (sym c.take_rpc_object.ensures.found ∙ c.if-not-take_rpc_object.false))

pub returns : goal.returns
returns c =
    let taken = c.if-not-take_rpc_object.false in
    finishes _ _ c.requires c.credit_cap.ensures.part
    (settled c.credit_cap.ensures.part.own (c.take_rpc_object.ensures.gone taken) refl
    (capfree_settles _ _ _ _ _ c.requires.own _ (found_rpc _ (sym c.take_rpc_object.ensures.found ∙ taken))))
