-- The reserve's limits are what its account's part tells.
use Rattle.std.proofs.Common.{subst, sym, ◌∙◌, ap}
use Rattle.std.specs.Prelude.{IfSome}
use Rattle.own_model.specs.Account.{Account}
use Rattle.dataspace_core.specs.Store.{IsOpenIn}
use Rattle.dataspace_core.proofs.PartLaws.{account_of-part}
use Rattle.pd_core.specs.Component.{reserve_in, own_in}
use Rattle.pd_core.proofs.QuotaLemmas.{none_in_reserve}
use Rattle.pd_core.proofs.component.Component.reserve.Goals as goal

pub limits-requires : goal.limits-requires
limits-requires c = subst (λ r. IfSome (reserve_in r) (IsOpenIn c.args.memory.now)) c.in-Script.is c.requires

pub returns-in-Script : goal.returns-in-Script
returns-in-Script c = λ sessions.
    let store = c.args.memory.now in
    let account = account_of-part c.in-Script.script.reserve.0 store in
    (λ j. record { ram = (c.limits.ensures.ram ∙ ap (λ (a : Account). a.ram_limit) (sym account)) j; caps = (c.limits.ensures.caps ∙ ap (λ (a : Account). a.caps_limit) (sym account)) j })
    ∙ ap (λ r. (own_in sessions store r).reserve) (sym c.in-Script.is)

pub returns-in_default : goal.returns-in_default
returns-in_default c = λ sessions. none_in_reserve sessions c.args.memory.now c.args.self.now.role c.in_default.not-Script
