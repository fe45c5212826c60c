-- The run of a component's own calls on a core.
use Rattle.std.proofs.lemmas.List.{drop_all, length-map}
use Rattle.std.proofs.Math.Bool.{or-false}
use Rattle.std.proofs.Common.{arith, ◌≡◌, ℕ, suc, ◌+◌, ◌<◌, ◌≤◌, Bool, true, false, true≢false, drop, get_or, drop-cons, add-one, List, [], ◌∷◌, ◌++◌, append_assoc, length, refl, sym, ap, ◌∙◌, subst, get_or-set_same, length-set}
use Rattle.std.specs.Prelude.{if◌then◌else◌, Option, Some, None, is_some}
use Rattle.own_model.specs.Account.{Account}
use Rattle.own_model.specs.Amounts.{Amounts}
use Rattle.own_model.specs.Call.{Call, is_exit}
use Rattle.own_model.specs.Call.Call.{Exit}
use Rattle.own_model.specs.Listed.{Listed, start_of, start_list_of}
use Rattle.own_model.specs.OwnState.{OwnState}
use Rattle.own_model.specs.OwnStep.{own_step}
use Rattle.own_model.specs.Reply.{reply_text}
use Rattle.own_model.specs.StartList.{Entry, Kind, entries_of, init_at, inits_kept, start_state, start_states}
use Rattle.own_model.specs.StartList.Kind.{Script}
use Rattle.own_model.specs.Transcript.{entry_at, state_at, nothing}
use Rattle.own_model.specs.World.{World, account_by, account_at, outcome_at, start_world, with_state}
use Rattle.core_calls.specs.Quotas.{quotas_account}
use Rattle.core_calls.specs.Call.{model_call}
use Rattle.core_calls.specs.declared.call.Call.{Call as Called}
use Rattle.core_calls.specs.declared.quotas.Quotas.{Quotas}
use Rattle.budget_theorems.specs.Need.{budgeted, limited}
use Rattle.budget_theorems.specs.Shortfall.{wants}
use Rattle.budget_meter.proofs.RunLemmas.{all_left, none_left}
use Rattle.budget_meter.specs.Metered.{HasObserved, HasReply, is_script}
use Rattle.budget_meter.specs.Run.{IsLeft, Shows}
use Rattle.budget_meter.specs.declared.account.AccountMeter.{AccountMeter}
use Rattle.budget_meter.specs.declared.meter.Meter.{Meter}
use Rattle.budget_search.proofs.OwnLineLemmas.{preceded_ended, wanted_shown}
use Rattle.budget_search.specs.Run.{Begins, HasLeft, HasLinesLeft}
use Rattle.budget_search.specs.OwnLines.{lines_by, quota_short, shown_short}
use Rattle.budget_search.specs.RunLines.{RunLines, ended_by, preceded}
use Rattle.budget_search.specs.Steps.{calls_of, calls_with, call_of}
use Rattle.budget_search.specs.declared.component_line.ComponentLine.{ComponentLine}
use Rattle.budget_search.specs.declared.trial.RefusedLine.{RefusedLine}
use Rattle.budget_search.specs.declared.trial.SkippedLine.{SkippedLine}

-- the account of a script is its own
pub by_script : (kind : Kind) (init own : Account) → kind ≡ Script → account_by kind init own ≡ own
by_script kind init own is = ap (λ k. account_by k init own) is

module _ (world after : World) (component : ℕ) (call : Call) (reply : List ℕ) (account : Quotas)
    (told : reply ≡ reply_text (outcome_at world component call).reply) (stepped : after ≡ with_state world component (outcome_at world component call).next)
    (left : quotas_account account ≡ account_at after component) where
  abbrev entry : Entry
  entry = entry_at world.entries component

  abbrev now : OwnState
  now = state_at world.states component

  abbrev next : OwnState
  next = (own_step entry call now).next

  entries_same : after.entries ≡ world.entries
  entries_same = ap (λ w. w.entries) stepped

  stands : component < length world.states → state_at after.states component ≡ next
  stands there = ap (λ w. state_at w.states component) stepped ∙ get_or-set_same world.states component next nothing there

  -- how its outcome is told
  pub is_told : entry.kind ≡ Script → component < length world.states → HasReply reply account (own_step entry call now)
  is_told script there = record {
    told = told;
    leaves =
        left
        ∙ by_script (entry_at after.entries component).kind (init_at after.inits (component + 1)) (state_at after.states component).account
        (ap (λ es. (entry_at es component).kind) entries_same ∙ script)
        ∙ ap (λ s. s.account) (stands there);
  }

  -- where it was in no want
  pub one_less : (old new : AccountMeter) (calls rest : List Call) (budget : Amounts) (s : OwnState) → HasLeft world component old calls (call ∷ rest) budget s →
      (IsLeft entry calls (call ∷ rest) budget s now old → HasReply reply account (own_step entry call now) → IsLeft entry calls rest budget s next new) →
      HasLeft after component new calls rest budget s
  one_less old new calls rest budget s before follows = record {
    script = ap (λ es. (entry_at es component).kind) entries_same ∙ before.script;
    there = subst (λ w. component < length w.states) (sym stepped) (omega (arith, before.there, length-set world.states component next));
    left =
        subst (λ es. IsLeft (entry_at es component) calls rest budget s (state_at after.states component) new) (sym entries_same)
        (subst (λ t. IsLeft entry calls rest budget s t new) (sym (stands before.there)) (follows before.left (is_told before.script before.there)));
  }

  -- the lines that the run shows, with this call before the rest
  module _ (old : AccountMeter) (so_far : List SkippedLine) (line : ℕ) (rest : OwnState → RunLines) (whole : RunLines)
      (before : HasLinesLeft world component old so_far (lines_by entry line call rest) whole) where
    -- the observed calls and this one
    abbrev these : List Call
    these = before.heard ++ call ∷ []

    alone : HasLeft world component old these (call ∷ []) before.budget before.s
    alone = before.left (call ∷ [])

    abbrev is_wanted : Bool
    is_wanted = wants call (own_step entry call now).reply

    -- the line of this call
    abbrev this_line : Option RefusedLine
    this_line = Some (record { line = line; shortage = quota_short (own_step entry call now).reply })

    chosen : (w : Bool) → is_wanted ≡ w → preceded so_far (if w then ended_by this_line else rest next) ≡ whole
    chosen w is = ap (λ b. preceded so_far (if b then ended_by this_line else rest next)) (sym is) ∙ before.whole_is

    -- a call that is short of quota is that of the last line
    pub is_last : (new : Meter) → (IsLeft entry these (call ∷ []) before.budget before.s now old → HasReply reply account (own_step entry call now) →
        Shows entry these before.s before.budget true new) →
        record { left_out = so_far; refused = Some (record { line = line; shortage = shown_short reply }) } ≡ whole
    is_last new ends =
        let is = sym (or-false is_wanted) ∙ sym ((ends alone.left (is_told alone.script alone.there)).want ∙ alone.left.want) in
        ap (λ text. record { left_out = so_far; refused = Some (record { line = line; shortage = shown_short text }) }) told
        ∙ sym
        (ap (λ shortage. record { left_out = so_far; refused = Some (record { line = line; shortage = shortage }) })
        (wanted_shown call (own_step entry call now).reply is))
        ∙ sym (preceded_ended so_far this_line)
        ∙ chosen true is

    -- and if it isn't, the rest shows its lines
    pub is_later : (new : AccountMeter) →
        ((calls more : List Call) (budget : Amounts) (s : OwnState) → IsLeft entry calls (call ∷ more) budget s now old →
        HasReply reply account (own_step entry call now) → IsLeft entry calls more budget s next new) →
        HasLinesLeft after component new so_far rest whole
    is_later new follows =
        let after_this = follows these [] before.budget before.s alone.left (is_told alone.script alone.there) in
        let is = sym (or-false is_wanted) ∙ sym alone.left.want ∙ after_this.want in
        record {
          heard = these;
          budget = before.budget;
          s = before.s;
          left = λ more.
              subst (λ each. HasLeft after component new each more before.budget before.s) (sym (append_assoc before.heard (call ∷ []) more))
              (one_less old new (before.heard ++ call ∷ more) more before.budget before.s (before.left (call ∷ more))
              (follows (before.heard ++ call ∷ more) more before.budget before.s));
          whole_is = ap (λ t. preceded so_far (rest t)) (stands alone.there) ∙ chosen false is;
        }

-- ---- before the first call

start_lengths : (list : Listed) (component : ℕ) → component < length list.entries → component < length (start_states (start_list_of list))
start_lengths list component within =
    omega (arith, within, length-map (start_list_of list).starts start_state, length-map list.entries (start_of list))

-- a script that begins with a budget
module _ (list : Listed) (core : World) (component : ℕ) (budget : Amounts) (s : OwnState) (account : Quotas) (meter : AccountMeter)
    (started : core ≡ start_world (start_list_of list)) (within : component < length list.entries) (begins : Begins (start_list_of list) component budget s)
    (told : quotas_account account ≡ account_at core component) where
  abbrev own : Entry
  own = entry_at (entries_of (start_list_of list)) component

  account_is : quotas_account account ≡ limited budget s.account
  account_is =
      told ∙ ap (λ w. account_at w component) started
      ∙ by_script own.kind (init_at (inits_kept (start_list_of list)) (component + 1)) (state_at (start_states (start_list_of list)) component).account begins.script
      ∙ ap (λ t. t.account) begins.state

  budget_is : record { ram = account.ram_limit.0; caps = account.caps_limit.0 } ≡ budget
  budget_is = ap (λ a. record { ram = a.ram_limit; caps = a.caps_limit }) account_is

  again : HasObserved own [] budget (budgeted budget s) meter → HasObserved own [] budget s meter
  again heard = record { start = heard.start; shown = heard.shown; knows = heard.knows }

  pub at_first : ((entry : Entry) (t : OwnState) → true ≡ is_script entry.kind → t.gone ≡ false → quotas_account account ≡ t.account → t.heap.shape.growth ≡ 4 →
      HasObserved entry [] (record { ram = account.ram_limit.0; caps = account.caps_limit.0 }) t meter) → (calls : List Call) →
      HasLeft core component meter calls calls budget s
  at_first hears calls = record {
    script = ap (λ w. (entry_at w.entries component).kind) started ∙ begins.script;
    there = subst (λ w. component < length w.states) (sym started) (start_lengths list component within);
    left =
        subst (λ w. IsLeft (entry_at w.entries component) calls calls budget s (state_at w.states component) meter) (sym started)
        (subst (λ t. IsLeft own calls calls budget s t meter) (sym begins.state)
        (all_left own calls budget s meter
        (again (subst (λ b. HasObserved own [] b (budgeted budget s) meter) budget_is
        (hears own (budgeted budget s) (sym (ap is_script begins.script)) begins.here account_is begins.growth)))));
  }

-- ---- lines

made : (call : Call) (rest : List Call) → is_exit call ≡ false → calls_with false (Some call) rest ≡ call ∷ rest
made Exit rest on = absurd (true≢false on)
made call rest on = refl

-- a line that isn't left out makes its call
pub made_of : (step : ComponentLine) (call : Called) (rest : List Call) → step.is_left_out ≡ false → Some (model_call call) ≡ call_of step → is_exit (model_call call) ≡ false →
    calls_with step.is_left_out (call_of step) rest ≡ model_call call ∷ rest
made_of step call rest stays is on = (λ i. calls_with (stays i) (sym is i) rest) ∙ made (model_call call) rest on

-- those of the lines from one on
pub next_calls : (steps : List ComponentLine) (i : ℕ) (item : ComponentLine) → i < length steps → item ≡ get_or steps i item →
    calls_of (drop i steps) ≡ calls_with item.is_left_out (call_of item) (calls_of (drop (i + 1) steps))
next_calls steps i item within is =
    ap calls_of (drop-cons steps i item within)
    ∙ (λ k. calls_with (sym is k).is_left_out (call_of (sym is k)) (calls_of (drop (suc i) steps)))
    ∙ ap (λ n. calls_with item.is_left_out (call_of item) (calls_of (drop n steps))) (sym (add-one i))

pub no_calls : (steps : List ComponentLine) (i : ℕ) → length steps ≤ i → calls_of (drop i steps) ≡ []
no_calls steps i past = ap calls_of (drop_all i steps past)

-- after the last
pub all_done : (core : World) (component : ℕ) (meter : AccountMeter) (calls : List Call) (budget : Amounts) (s : OwnState) (refused : Option RefusedLine) → refused ≡ None →
    HasLeft core component meter calls [] budget s → Shows (entry_at core.entries component) calls s budget (is_some refused) meter.meter
all_done core component meter calls budget s refused none left =
    subst (λ r. Shows (entry_at core.entries component) calls s budget (is_some r) meter.meter) (sym none)
    (none_left (entry_at core.entries component) calls budget s meter (state_at core.states component) left.left)
