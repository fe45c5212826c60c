-- Who is answered, and who isn't.
use Rattle.std.proofs.lemmas.Bool.Decides.{nat_tests}
use Rattle.std.proofs.Common.{arith, ◌≡◌, ◌∷◌, ◌++◌, [], false, sym, ◌∙◌, subst, true≢false}
use Rattle.own_model.specs.OwnStep.{own_run}
use Rattle.core_calls.specs.Call.{model_call}
use Rattle.budget_theorems.specs.Need.{budgeted}
use Rattle.budget_meter.specs.Metered.{HasObserved}
use Rattle.budget_meter.proofs.HeardLemmas.{heard, unheard}
use Rattle.budget_meter.proofs.account.AccountMeter.hear.Goals.{else-self-via-then-self+else-not-self, else-self-via-else-self}
use Rattle.budget_meter.proofs.account.AccountMeter.hear.Goals as goal

pub returns-then-not-self : goal.returns-then-not-self
returns-then-not-self c = λ entry calls budget s before told.
    let taken = c.take.new.self in
    let on : c.args.self.now.is_gone ≡ false = grind (arith, nat_tests, c.if-not-self.true) in
    subst (λ b. HasObserved entry (calls ++ model_call c.args.call ∷ []) budget s (record taken { account = c.args.after; is_gone = b })) (sym c.is_exit-self.ensures)
    (heard entry calls (model_call c.args.call) budget s c.args.self.now taken c.args.reply.text.now c.args.after before c.if-self.true on told
    (c.take.ensures.shown entry (own_run entry calls (budgeted budget s))) (c.take.ensures.pages entry (own_run entry calls (budgeted budget s)))
    c.take.ensures.start c.take.ensures.script)

pub returns-else-self : goal.returns-else-self
returns-else-self c = λ entry calls budget s before told.
    unheard entry calls (model_call c.args.call) budget s c.args.self.now
    (λ is. elim c.else-self.branch [
      | else-self-via-then-self+else-not-self w ↦ grind (arith, nat_tests, w.if-not-self.false)
      | else-self-via-else-self w ↦ absurd (true≢false (sym is ∙ w.if-self.false))
    ])
    before
