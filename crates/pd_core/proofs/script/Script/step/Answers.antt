-- What is told is what the call gave back, and a call that gives an outcome back does what its own function promises.
use Rattle.std.proofs.Common.{◌≡◌, [], refl, ap, sym, ◌∙◌, rules, inl, Result, Ok}
use Rattle.trade_base.specs.declared.refusal.Refusal.{Refusal}
use Rattle.own_model.specs.Call.{Call}
use Rattle.own_model.specs.Call.Call.{Quota as ModelledQuota}
use Rattle.own_model.specs.OwnStep.{script_step, Outcome}
use Rattle.own_model.specs.Reply.{reply_text}
use Rattle.own_model.specs.Reply.Reply.{Quotas}
use Rattle.dataspace_core.specs.Store.{Store, part, account_in}
use Rattle.core_calls.specs.ReplyText.{Told as Written}
use Rattle.pd_core.specs.declared.call_value.CallValue.{CallValue}
use Rattle.pd_core.specs.declared.call_value.CallValue.TheVariants.{Quotas as QuotasAnswered}
use Rattle.core_calls.specs.declared.quotas.Quotas.{Quotas as QuotasTold}
use Rattle.pd_core.specs.declared.script.Script.{Script}
use Rattle.pd_core.specs.Answer.{told, told_of, told_alone, reply_of, quotas_account}
use Rattle.core_calls.specs.Call.{model_call}
use Rattle.pd_core.specs.Does.{Does, DoesBeside, DoesWithText}
use Rattle.pd_core.specs.Own.{own_of, own_at}
use Rattle.pd_core.specs.Sound.{SparesOthers, Keeps}
use Rattle.pd_core.proofs.ScriptLemmas.{leaves_others}
use Rattle.pd_core.proofs.script.Script.step.Goals.{in-Alloc, in-Free, in-Attach, in-AttachAt, in-Detach, in-Poke, in-Capalloc, in-Capfree, in-New, in-Del, in-Snew, in-Sdel, in-Quota}
use Rattle.pd_core.proofs.script.Script.step.Goals as goal

-- an outcome that is told as the call's
record Tells (made : Call) (said : Written) (old : Store) (before : Script) (new : Store) (after : Script) : Type 0 where
  outcome : DoesWithText made said old before new after
  keeps : Keeps old before new after
  others : SparesOthers before.account.0 before.caps.caps old new

tells : {made call : Call} {said : Written} {given answered : Result CallValue Refusal} {old : Store} {before : Script} {new : Store} {after : Script} →
    made ≡ call → said ≡ told_alone (reply_text (reply_of given)) → given ≡ answered → DoesBeside (SparesOthers before.account.0 before.caps.caps old new) call (reply_of answered) old before new after → Tells made said old before new after
tells {made} {call} {said} {given} {answered} {old} {before} {new} {after} is said_is given_is does = record {
  outcome = λ sessions ready.
      ap (λ (reply : Written). told reply (own_at sessions new after)) (said_is ∙ ap (λ o. told_alone (reply_text (reply_of o))) given_is)
      ∙ ap told_of (does.outcome sessions ready ∙ ap (λ one. script_step one (own_at sessions old before)) (sym is));
  keeps = does.keeps;
  others = does.others;
}

-- quotas that are those of the account
does_quota : {store : Store} {script : Script} {given : QuotasTold} → quotas_account given ≡ account_in store script.account.0 → Keeps store script store script →
    Does ModelledQuota (reply_of (Ok (QuotasAnswered given))) store script store script
unfolding own_of part
does_quota {store} {script} is keeps = record {
  outcome = λ sessions ready. ap {B = Outcome} (λ a. record { reply = Quotas a; lines = []; next = own_at sessions store script }) is;
  keeps = keeps;
  others = λ other apart. refl;
}

done : (c : goal.After-tell) → Tells (model_call c.args.call) c.tell.new.reply c.args.memory.now c.args.self.now c.match-call.memory c.match-call.self
done c =
    let stays : Keeps c.args.memory.now c.args.self.now c.args.memory.now c.args.self.now = (let sound = c.requires.sound in search rules) in
    elim c.match-call.branch [
      | in-Alloc w ↦ rw (w.memory-is, w.self-is) (tells (ap model_call w.in-Alloc.is) c.tell.ensures w.outcome-is (leaves_others w.alloc-outcome.ensures))
      | in-Free w ↦ rw (w.memory-is, w.self-is) (tells (ap model_call w.in-Free.is) c.tell.ensures w.outcome-is (leaves_others w.free-outcome.ensures))
      | in-Attach w ↦ rw (w.memory-is, w.self-is) (tells (ap model_call w.in-Attach.is) c.tell.ensures w.outcome-is (leaves_others w.attach-outcome.ensures))
      | in-AttachAt w ↦ rw (w.memory-is, w.self-is) (tells (ap model_call w.in-AttachAt.is) c.tell.ensures w.outcome-is (leaves_others w.attach_at-outcome.ensures))
      | in-Detach w ↦ rw (w.memory-is, w.self-is) (tells (ap model_call w.in-Detach.is) c.tell.ensures w.outcome-is (leaves_others w.detach-outcome.ensures))
      | in-Poke w ↦ rw (w.memory-is, w.self-is) (tells (ap model_call w.in-Poke.is) c.tell.ensures w.outcome-is w.poke-outcome.ensures)
      | in-Capalloc w ↦ rw (w.memory-is, w.self-is) (tells (ap model_call w.in-Capalloc.is) c.tell.ensures w.outcome-is (leaves_others w.capalloc-outcome.ensures))
      | in-Capfree w ↦ rw (w.memory-is, w.self-is) (tells (ap model_call w.in-Capfree.is) c.tell.ensures w.outcome-is (leaves_others w.capfree-outcome.ensures))
      | in-New w ↦ rw (w.memory-is, w.self-is) (tells (ap model_call w.in-New.is) c.tell.ensures w.outcome-is (leaves_others w.new_block-outcome.ensures))
      | in-Del w ↦ rw (w.memory-is, w.self-is) (tells (ap model_call w.in-Del.is) c.tell.ensures w.outcome-is (leaves_others w.del_block-outcome.ensures))
      | in-Snew w ↦ rw (w.memory-is, w.self-is) (tells (ap model_call w.in-Snew.is) c.tell.ensures w.outcome-is (leaves_others w.snew-outcome.ensures))
      | in-Sdel w ↦ rw (w.memory-is, w.self-is) (tells (ap model_call w.in-Sdel.is) c.tell.ensures w.outcome-is (leaves_others w.sdel-outcome.ensures))
      | in-Quota w ↦ rw (w.memory-is, w.self-is) (tells (ap model_call w.in-Quota.is) c.tell.ensures w.outcome-is (leaves_others (does_quota w.quota.ensures stays)))
    ]

pub returns-clause-outcome : goal.returns-clause-outcome
returns-clause-outcome c = (done c).outcome

pub returns-clause-keeps : goal.returns-clause-keeps
returns-clause-keeps c = (done c).keeps

pub returns-clause-others : goal.returns-clause-others
returns-clause-others c = (done c).others

-- a peek writes nothing
pub returns-in-Peek-clause-others : goal.returns-in-Peek-clause-others
returns-in-Peek-clause-others c = inl (λ other apart. ap (part other) c.peek.ensures.memory)
