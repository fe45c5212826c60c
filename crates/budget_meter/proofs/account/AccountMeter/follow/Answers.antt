-- A call that is in want ends a run, and any other leaves one less.
use Rattle.std.proofs.Common.{◌≡◌, ℕ, List, sym, ap, ◌∙◌, subst}
use Rattle.own_model.specs.OwnState.{OwnState}
use Rattle.own_model.specs.OwnStep.{own_step, own_run}
use Rattle.own_model.specs.StartList.{Entry}
use Rattle.own_model.specs.Call.{Call}
use Rattle.core_calls.specs.Call.{model_call}
use Rattle.core_calls.specs.declared.quotas.Quotas.{Quotas}
use Rattle.budget_theorems.proofs.ToldLemmas.{wants_told}
use Rattle.budget_theorems.specs.Need.{budgeted}
use Rattle.budget_theorems.specs.Shortfall.{shows_shortfall, wants}
use Rattle.budget_meter.proofs.RunLemmas.{one_less, ended}
use Rattle.budget_meter.specs.Metered.{HasReply}
use Rattle.budget_meter.proofs.account.AccountMeter.follow.Goals as goal

-- told from where the calls before it led
told_there : (entry : Entry) (call : Call) (reply : List ℕ) (left : Quotas) (there now : OwnState) → there ≡ now → HasReply reply left (own_step entry call now) →
    HasReply reply left (own_step entry call there)
told_there entry call reply left there now same told = subst (λ t. HasReply reply left (own_step entry call t)) (sym same) told

-- whether it is in want, as it was told
want_told : (entry : Entry) (call : Call) (reply : List ℕ) (left : Quotas) (now : OwnState) → HasReply reply left (own_step entry call now) →
    wants call (own_step entry call now).reply ≡ shows_shortfall call reply
want_told entry call reply left now told = wants_told entry call now ∙ ap (shows_shortfall call) (sym told.told)

pub returns-clause-on : goal.returns-clause-on
returns-clause-on c = λ is entry calls rest budget s now left told.
    let call = model_call c.args.call in
    one_less entry calls budget s c.hear.new.self call rest now c.args.self.now left
    (λ heard has here.
    c.hear.ensures entry heard budget s has (told_there entry call c.args.reply.text.now c.args.after (own_run entry heard (budgeted budget s)) now here told))
    (want_told entry call c.args.reply.text.now c.args.after now told ∙ sym c.is_in_want.ensures ∙ is)

pub returns-clause-end : goal.returns-clause-end
returns-clause-end c = λ is entry calls rest budget s now left told.
    let call = model_call c.args.call in
    ended entry calls budget s c.hear.new.self call rest now c.args.self.now left
    (λ heard has here.
    c.hear.ensures entry heard budget s has (told_there entry call c.args.reply.text.now c.args.after (own_run entry heard (budgeted budget s)) now here told))
    (want_told entry call c.args.reply.text.now c.args.after now told ∙ sym c.is_in_want.ensures ∙ is)
