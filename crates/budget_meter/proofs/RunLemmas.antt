-- Runs call by call, up to the first in want.
use Rattle.std.proofs.Common.{◌≡◌, Bool, true, false, cond, List, [], ◌∷◌, ◌++◌, refl, sym, ap, ◌∙◌, ◌||◌, append_assoc}
use Rattle.std.proofs.lemmas.List.{append-nil}
use Rattle.own_model.specs.Amounts.{Amounts}
use Rattle.own_model.specs.Call.{Call}
use Rattle.own_model.specs.OwnState.{OwnState}
use Rattle.own_model.specs.OwnStep.{own_step, own_run}
use Rattle.own_model.specs.StartList.{Entry}
use Rattle.budget_theorems.specs.Need.{budgeted, needs}
use Rattle.budget_theorems.specs.Intervals.{up_to_shortfall}
use Rattle.budget_theorems.specs.Shortfall.{wants, run_is_short}
use Rattle.budget_meter.specs.Metered.{HasObserved}
use Rattle.budget_meter.specs.Needs.{shown_by}
use Rattle.budget_meter.specs.Run.{IsLeft, Shows}
use Rattle.budget_meter.specs.declared.account.AccountMeter.{AccountMeter}
use Rattle.budget_meter.proofs.ShownLemmas.{run-more}

module _ (entry : Entry) (calls : List Call) (budget : Amounts) (s : OwnState) (meter : AccountMeter) where
  -- before the first
  pub all_left : HasObserved entry [] budget s meter → IsLeft entry calls calls budget s (budgeted budget s) meter
  all_left has = record { heard = []; has = has; here = refl; part = refl; want = refl }

  -- after the last
  pub none_left : (now : OwnState) → IsLeft entry calls [] budget s now meter → Shows entry calls s budget false meter.meter
  none_left now left = record {
    start = left.has.start;
    shown = left.has.shown ∙ ap (λ each. shown_by budget (needs entry budget each (budgeted budget s))) (sym (append-nil left.heard) ∙ sym left.part);
    want = sym left.want;
  }

  module _ (call : Call) (rest : List Call) (now : OwnState) (old : AccountMeter) (before : IsLeft entry calls (call ∷ rest) budget s now old)
      (hears : (heard : List Call) → HasObserved entry heard budget s old → own_run entry heard (budgeted budget s) ≡ now →
      HasObserved entry (heard ++ call ∷ []) budget s meter) where
    has_more : HasObserved entry (before.heard ++ call ∷ []) budget s meter
    has_more = hears before.heard before.has before.here

    -- the part up to the first want, where this call is in want or not
    abbrev behind : Bool → List Call
    behind w = call ∷ cond w [] (up_to_shortfall entry rest (own_step entry call now).next)

    -- a call that is in no want goes on
    pub one_less : wants call (own_step entry call now).reply ≡ false → IsLeft entry calls rest budget s (own_step entry call now).next meter
    one_less is = record {
      heard = before.heard ++ call ∷ [];
      has = has_more;
      here = run-more entry before.heard call (budgeted budget s) ∙ ap (λ t. (own_step entry call t).next) before.here;
      part =
          before.part ∙ ap (λ w. before.heard ++ behind w) is
          ∙ sym (append_assoc before.heard (call ∷ []) (up_to_shortfall entry rest (own_step entry call now).next));
      want = before.want ∙ ap (λ w. w || run_is_short entry rest (own_step entry call now).next) is;
    }

    -- and one that is ends the run
    pub ended : wants call (own_step entry call now).reply ≡ true → Shows entry calls s budget true meter.meter
    ended is = record {
      start = has_more.start;
      shown =
          has_more.shown
          ∙ ap (λ each. shown_by budget (needs entry budget each (budgeted budget s))) (sym (before.part ∙ ap (λ w. before.heard ++ behind w) is));
      want = sym (before.want ∙ ap (λ w. w || run_is_short entry rest (own_step entry call now).next) is);
    }
