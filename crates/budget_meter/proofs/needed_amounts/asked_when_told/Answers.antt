-- An open is denied, or its arguments are tested.
use Rattle.std.proofs.Common.{sym, ap, ◌∙◌}
use Rattle.own_model.specs.OwnStep.{entry_step}
use Rattle.own_model.specs.Reply.{reply_text}
use Rattle.own_model.specs.SessionArgs.{arguments_of}
use Rattle.core_calls.specs.Call.{model_call}
use Rattle.budget_theorems.specs.Test.{entry_tests}
use Rattle.budget_meter.specs.Asked.{asked_by}
use Rattle.budget_meter.proofs.AskedLemmas.{open_asks}
use Rattle.budget_meter.proofs.needed_amounts.asked_when_told.Goals as goal

pub returns-in-Open : goal.returns-in-Open
returns-in-Open c =
    let is = ap model_call c.in-Open.is in
    record {
      once = λ chunk entry s told.
          open_asks s c.named_by_open.result c.args.reply.text.now c.named_by_open.ensures.told entry.label entry.routes c.in-Open.service.now (arguments_of c.in-Open.args.now)
          (told ∙ ap (λ call. reply_text (entry_step entry call s).reply) is) c.named_by_open.ensures.named
          ∙ ap (λ call. entry_tests entry call s) (sym is);
      asked = λ chunk denied unnamed. c.named_by_open.ensures.named denied ∙ ap asked_by (sym is);
    }
