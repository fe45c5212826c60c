-- The reserve is as it was when the account closes, and closes after it.
use Rattle.std.proofs.Common.{◌≡◌, sym, subst, ◌∙◌}
use Rattle.std.specs.FinMap.{get}
use Rattle.std.specs.Prelude.{IfSome, IsSome}
use Rattle.dataspace_core.specs.Store.{parents_in, parent_in}
use Rattle.pd_core.specs.Component.{HasOwnReserve, IsOwnReserve, payer_in, reserve_in}
use Rattle.pd_core.specs.Exit.{ClosesBoth}
use Rattle.pd_core.specs.declared.component.Role.TheVariants.{Script as AScript}
use Rattle.pd_core.proofs.ExitEndLemmas.{reserve_there, reserve_leaf, reserve_unused, closes_both}
use Rattle.pd_core.proofs.component.Component.leave.Goals as goal

-- the reserve is one of its own, and the account is below another
known : (c : goal.After-close-arg-1) → IsOwnReserve c.args.memory.now c.in-Script.script.account.0 c.in-Script.script.reserve.0 × IsSome (get (parents_in c.args.memory.now) c.in-Script.script.account.0)
known c =
    let is : c.args.self.now.role ≡ AScript c.in-Script.script = sym c.replace.ensures.value ∙ c.in-Script.is in
    (subst (HasOwnReserve c.args.memory.now) is c.requires.reserve, subst (λ r. IsSome (get (parents_in c.args.memory.now) (payer_in r))) is c.requires.child)

pub close-requires-clause-child : goal.close-requires-clause-child
close-requires-clause-child c = let its = known c in reserve_there its.0 its.1 c.end.ensures.closes

pub close-requires-clause-leaf : goal.close-requires-clause-leaf
close-requires-clause-leaf c = let its = known c in reserve_leaf its.0 its.1 c.end.ensures.closes

pub close-requires-clause-unused : goal.close-requires-clause-unused
close-requires-clause-unused c = let its = known c in reserve_unused its.0 its.1 c.end.ensures.closes

pub returns-clause-closes : goal.returns-clause-closes
returns-clause-closes c =
    let is : c.args.self.now.role ≡ AScript c.in-Script.script = sym c.replace.ensures.value ∙ c.in-Script.is in
    let own = subst (HasOwnReserve c.args.memory.now) is c.requires.reserve in
    let child = subst (λ r. IsSome (get (parents_in c.args.memory.now) (payer_in r))) is c.requires.child in
    subst (λ r. IfSome (reserve_in r) (λ one. ClosesBoth (payer_in r) one (parent_in c.args.memory.now (payer_in r)) c.args.memory.now c.close.new.self)) (sym is)
    (closes_both own child c.end.ensures.closes c.end.ensures.caps c.close.ensures.part)
