-- One upgrade more, until the account has enough.
use Rattle.std.proofs.Common.{◌≡◌, ◌+◌, ◌-◌, ◌∙◌, ap, arith, suc, sym}
use Rattle.own_model.specs.Call.Call.{CallSession}
use Rattle.budget_search.specs.AmpleCalls.{asked_up, upgrade_args, Client}
use Rattle.budget_search.proofs.AskLemmas.{asked_enough, asked_more, asked_most, asked_none, asked_some}
use Rattle.budget_search.proofs.ample_client.AmpleClient.request.Goals as goal

pub loop-made-init : goal.loop-made-init
loop-made-init g c = record {
  few = omega arith;
  left = ap (asked_up c.args.selector (CallSession c.args.selector c.args.request.now) 32 1) c.step.ensures;
}

pub loop-made-preserved : goal.loop-made-preserved
loop-made-preserved g c =
    let made = c.loop-made.made in
    let times = c.loop-made.times in
    let less : 32 - made ≡ suc (32 - (made + 1)) = omega (arith, c.loop-made-test.true) in
    record {
      few = omega (arith, c.loop-made-test.true);
      left =
          asked_more c.args.selector (CallSession c.args.selector c.args.request.now) times c.loop-made.self (32 - made) (32 - (made + 1)) c.saturating_mul-times.result
          c.as_slice.result.now c.ask_again.new.self less c.saturating_mul-times.ensures
          (ap (λ (v : Client). upgrade_args times v.text) (sym c.self.view_is) ∙ ap (upgrade_args times) (sym c.answer.ensures) ∙ asked_some _ _ c.in-Some.args _ _ c.in_ok-args.ensures c.in-Some.is c.as_slice.ensures.value)
          c.ask_again.ensures
          ∙ c.loop-made.invariant.left;
    }

pub returns-in-None : goal.returns-in-None
returns-in-None g c =
    asked_enough c.args.selector (CallSession c.args.selector c.args.request.now) c.loop-made.times c.loop-made.self (32 - c.loop-made.made)
    (ap (λ (v : Client). upgrade_args c.loop-made.times v.text) (sym c.self.view_is) ∙ ap (upgrade_args c.loop-made.times) (sym c.answer.ensures) ∙ asked_none _ _ _ c.in_ok-args.ensures c.in-None.is)
    ∙ c.loop-made.invariant.left

pub returns : goal.returns
returns g c =
    asked_most c.args.selector (CallSession c.args.selector c.args.request.now) c.loop-made.times c.loop-made.self (32 - c.loop-made.made)
    (omega (arith, c.loop-made-test.false)) ∙ c.loop-made.invariant.left
