-- A component that is a script takes the script's step.
use Rattle.std.proofs.Common.{◌≡◌, ap, sym, subst, ◌∙◌}
use Rattle.pd_core.specs.Answer.{Told, told, told_of}
use Rattle.dataspace_core.specs.Store.{part}
use Rattle.pd_core.specs.Component.{HasReserveApart, amounts_in, with_reserve, caps_in}
use Rattle.pd_core.specs.Own.{HasSessions, own_at}
use Rattle.pd_core.proofs.ComponentLemmas.{script_outcome, script_keeps, reserve_spared}
use Rattle.pd_core.proofs.component.Component.step.Goals as goal

pub returns-in-Script-clause-outcome : goal.returns-in-Script-clause-outcome
returns-in-Script-clause-outcome c = λ places sessions ready.
    let has = amounts_in (part c.in-Script.script.reserve.0 c.args.memory.now) in
    let now : amounts_in (part c.step.new.self.reserve.0 c.step.new.memory) ≡ amounts_in (part c.in-Script.script.reserve.0 c.args.memory.now)
    = reserve_spared c.in-Script.script.reserve c.step.new.self.reserve c.step.ensures.others c.step.ensures.keeps.reserve (subst HasReserveApart c.in-Script.is c.requires.reserve) in
    (λ j. told c.step.new.reply (with_reserve (now j) (own_at sessions c.step.new.memory c.step.new.self)))
    ∙ ap (λ (t : Told). record t { next = with_reserve has t.next }) (c.step.ensures.outcome sessions (subst (λ role. HasSessions sessions (caps_in role)) c.in-Script.is ready))
    ∙ ap told_of (sym (script_outcome places sessions c.args.memory.now c.args.self.now c.in-Script.script c.args.call c.in-Script.is c.requires.plain))

pub returns-in-Script-clause-keeps : goal.returns-in-Script-clause-keeps
returns-in-Script-clause-keeps c = λ script. script_keeps c.args.self.now c.in-Script.script c.step.new.self c.in-Script.is c.step.ensures.keeps c.step.ensures.others
