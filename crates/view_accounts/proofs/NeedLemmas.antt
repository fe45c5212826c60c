-- What meters have heard, call by call, and what accounts need by that.
use Rattle.std.proofs.Common.{◌≡◌, ℕ, zero, suc, ◌+◌, ◌<◌, ◌≤◌, ◌==◌, ◌&&◌, Bool, true, false, true≢false, cond, eqb-true, List, [], ◌∷◌, ◌++◌, length, get_or, append-nil, Option, Some, refl, sym, ◌∙◌, ap, subst, ⊎_elim, arith}
use Rattle.std.specs.Prelude.{◌≢◌}
use Rattle.std.proofs.lemmas.Bool.{cases_lt, eq-eqb}
use Rattle.std.proofs.Math.ListN.{get_or-append}
use Rattle.std.proofs.lemmas.Grind.{flat_map-append}
use Rattle.std.proofs.lemmas.List.{get_or-map, get_or_push, length-map}
use Rattle.own_model.proofs.RunLemmas.{own_part-append, own_run-append}
use Rattle.own_model.proofs.RunningLemmas.{states_running-at}
use Rattle.own_model.specs.Amounts.{Amounts, no_amounts}
use Rattle.own_model.specs.Call.{Call}
use Rattle.own_model.specs.Listed.{Binary, Listed, ListedEntry, kind_of, reserve_of, start_of, start_list_of}
use Rattle.own_model.specs.Listed.Binary.{Script, Server, Init}
use Rattle.own_model.specs.OwnState.{OwnState}
use Rattle.own_model.specs.OwnStep.{own_run, own_step}
use Rattle.own_model.specs.Reply.{reply_text}
use Rattle.own_model.specs.StartList.{Entry, Kind, StartEntry, entries_of, init_at, start_state, start_states}
use Rattle.own_model.specs.Transcript.{calls_in, calls_of, entry_at, heard, nothing, own_part, state_at}
use Rattle.own_model.specs.Transcript.Heard.{Caller}
use Rattle.own_model.specs.World.{World, account_at, account_by, world_running}
use Rattle.core_calls.specs.Quotas.{quotas_account}
use Rattle.core_calls.specs.declared.quotas.Quotas.{Quotas}
use Rattle.budget_meter.specs.Metered.{HasObserved, HasReply}
use Rattle.budget_meter.specs.declared.account.AccountMeter.{AccountMeter}
use Rattle.run_lines.specs.Accounts.{listed_at, unlisted}
use Rattle.run_lines.specs.Answer.{answered_reply}
use Rattle.run_lines.specs.Machine.{world_of}
use Rattle.run_lines.specs.declared.line_answer.LineAnswer.{LineAnswer}
use Rattle.run_lines.proofs.AccountLemmas.{entries_listed}
use Rattle.view_accounts.specs.Meters.{IsFresh, SeesNeeds, meter_at, needed_of, no_meter}
use Rattle.view_accounts.specs.Needs.{Needed, added, budget_at, counts_below, is_script, lies_below, limits, needed_below, needed_by_calls, needed_running, own_calls, summed}
use Rattle.run_scenario.specs.Observation.{IsAnsweredAfter}
use Rattle.run_scenario.proofs.CallerLemmas.{kind_here}

-- an account of a script is its own
own_account : (world : World) (place : ℕ) → (entry_at world.entries place).kind ≡ Kind.Script → account_at world place ≡ (state_at world.states place).account
own_account world place script = ap (λ kind. account_by kind (init_at world.inits (place + 1)) (state_at world.states place).account) script

-- ---- a call more

-- a component's own calls, with a line more of all
pub own_calls-more : (start : World) (earlier : List (List ℕ)) (line : List ℕ) (place : ℕ) →
    own_calls start (earlier ++ line ∷ []) place ≡ own_calls start earlier place ++ own_part place (calls_in (heard start.entries line))
own_calls-more start earlier line place =
    ap (own_part place)
    (flat_map-append (λ l. calls_in (heard start.entries l)) earlier (line ∷ [])
    ∙ ap (λ made. calls_of start.entries earlier ++ made) (append-nil (calls_in (heard start.entries line))))
    ∙ own_part-append place (calls_of start.entries earlier) (calls_in (heard start.entries line))

module _ (start : World) (earlier : List (List ℕ)) (line : List ℕ) (component : ℕ) (call : Call) (is : heard start.entries line ≡ Caller (record { component = component; call = call })) where
  -- of a component's line the call is its own, or none is
  calls_now : (place : ℕ) → own_calls start (earlier ++ line ∷ []) place ≡ own_calls start earlier place ++ cond (component == place) (call ∷ []) []
  calls_now place = own_calls-more start earlier line place ∙ ap (λ what. own_calls start earlier place ++ own_part place (calls_in what)) is

  pub calls_own : own_calls start (earlier ++ line ∷ []) component ≡ own_calls start earlier component ++ call ∷ []
  calls_own = calls_now component ∙ ap (λ b. own_calls start earlier component ++ cond b (call ∷ []) []) (eq-eqb component component refl)

  abbrev entry : Entry
  entry = entry_at start.entries component

  abbrev first : OwnState
  first = state_at start.states component

  -- and so it stands then
  stands_now : state_at (world_running start (earlier ++ line ∷ [])).states component ≡ (own_step entry call (own_run entry (own_calls start earlier component) first)).next
  stands_now =
      states_running-at start.entries start.states (earlier ++ line ∷ []) component ∙ ap (λ calls. own_run entry calls first) calls_own
      ∙ own_run-append entry (own_calls start earlier component) (call ∷ []) first

  -- which is what its call makes of what it had
  pub steps_now : state_at (world_running start (earlier ++ line ∷ [])).states component ≡ (own_step entry call (state_at (world_running start earlier).states component)).next
  steps_now = stands_now ∙ ap (λ s. (own_step entry call s).next) (sym (states_running-at start.entries start.states earlier component))

  -- which a meter is told
  pub is_told : {left : World} {answer : LineAnswer} (after : Quotas) → IsAnsweredAfter start earlier line left answer → entry.kind ≡ Kind.Script → quotas_account after ≡ account_at left component →
      HasReply answer.reply.now after (own_step entry call (own_run entry (own_calls start earlier component) first))
  is_told after told script account = record {
    told =
        told.answers.reply ∙ ap (λ what. reply_text (answered_reply (world_running start earlier) what)) is
        ∙ ap (λ s. reply_text (own_step entry call s).reply) (states_running-at start.entries start.states earlier component);
    leaves =
        account ∙ ap (λ w. account_at w component) told.leaves ∙ own_account (world_running start (earlier ++ line ∷ [])) component script
        ∙ ap (λ s. s.account) stands_now;
  }

module _ {meters : List AccountMeter} {start : World} {earlier : List (List ℕ)} (sees : SeesNeeds meters start earlier) (line : List ℕ) where
  abbrev Hears : List AccountMeter → ℕ → List Call → Type 0
  Hears meters place calls = HasObserved (entry_at start.entries place) calls (budget_at start place) (state_at start.states place) (meter_at meters place)

  -- a line of nobody is no call of anybody
  pub sees_silent : calls_in (heard start.entries line) ≡ [] → SeesNeeds meters start (earlier ++ line ∷ [])
  sees_silent none = record {
    count = sees.count;
    each = λ place within script.
        subst (Hears meters place)
        (sym (own_calls-more start earlier line place ∙ ap (λ made. own_calls start earlier place ++ own_part place made) none ∙ append-nil (own_calls start earlier place)))
        (sees.each place within script);
  }

  -- and one of a component is its own
  pub sees_called : (component : ℕ) (call : Call) (meters' : List AccountMeter) → heard start.entries line ≡ Caller (record { component = component; call = call }) → length meters' ≡ length meters →
      ((place : ℕ) → place ≢ component → meter_at meters' place ≡ meter_at meters place) →
      (component < length start.entries → (entry_at start.entries component).kind ≡ Kind.Script → Hears meters component (own_calls start earlier component) →
      Hears meters' component (own_calls start earlier component ++ call ∷ [])) →
      SeesNeeds meters' start (earlier ++ line ∷ [])
  sees_called component call meters' is count others own = record {
    count = count ∙ sees.count;
    each = λ place within script. subst (Hears meters' place) (sym (calls_now start earlier line component call is place)) (by place within script (component == place) refl);
  }
    where
      by : (place : ℕ) → place < length start.entries → (entry_at start.entries place).kind ≡ Kind.Script → (b : Bool) → (component == place) ≡ b →
          Hears meters' place (own_calls start earlier place ++ cond b (call ∷ []) [])
      by place within script true same =
          let here : place ≡ component = sym (eqb-true component place same) in
          subst (λ p. Hears meters' p (own_calls start earlier p ++ call ∷ [])) (sym here)
          (own (subst (λ p. p < length start.entries) here within) (subst (λ p. (entry_at start.entries p).kind ≡ Kind.Script) here script)
          (subst (λ p. Hears meters p (own_calls start earlier p)) here (sees.each place within script)))
      by place within script false apart =
          subst (λ meter. HasObserved (entry_at start.entries place) (own_calls start earlier place ++ []) (budget_at start place) (state_at start.states place) meter)
          (sym (others place (λ same. true≢false (sym (eq-eqb component place (sym same)) ∙ apart))))
          (subst (Hears meters place) (sym (append-nil (own_calls start earlier place))) (sees.each place within script))

-- ---- before the first call

module _ (listed : Listed) (place : ℕ) (within : place < length (start_list_of listed).starts) where
  abbrev first_of : StartEntry
  first_of = get_or (start_list_of listed).starts place (start_of listed unlisted)

  starts_as : state_at (start_states (start_list_of listed)) place ≡ start_state first_of
  starts_as = get_or-map start_state (start_list_of listed).starts place (start_of listed unlisted) nothing within

  starts_here : (state_at (start_states (start_list_of listed)) place).gone ≡ false
  starts_here = ap (λ s. s.gone) starts_as

  starts_low : (state_at (start_states (start_list_of listed)) place).heap.shape.growth ≡ 4
  starts_low = ap (λ s. s.heap.shape.growth) starts_as

-- one meter more is that of the next component
pub fresh_more : (core : World) (meters : List AccountMeter) {meters' : List AccountMeter} (n : ℕ) (meter : AccountMeter) → length meters ≡ n → meters' ≡ meters ++ meter ∷ [] →
    ((place : ℕ) → place < n → IsFresh (account_at core place) (meter_at meters place)) → IsFresh (account_at core n) meter →
    (place : ℕ) → place < n + 1 → IsFresh (account_at core place) (meter_at meters' place)
fresh_more core meters n meter count is fresh last place within =
    subst (λ ms. IsFresh (account_at core place) (meter_at ms place)) (sym is)
    (⊎_elim
    (λ (before : place < n).
    subst (IsFresh (account_at core place)) (sym (get_or-append meters (meter ∷ []) no_meter place (omega (arith, before, count)))) (fresh place before))
    (λ (past : n ≤ place).
    let here : place ≡ n = omega (arith, past, within) in
    subst (λ p. IsFresh (account_at core p) (meter_at (meters ++ meter ∷ []) p)) (sym here)
    (subst (IsFresh (account_at core n)) (sym (get_or_push meters meter no_meter n count)) last))
    (cases_lt place n))

pub sees_begun : {meters : List AccountMeter} {core : World} (listed : Listed) → core ≡ world_of listed → length meters ≡ length core.entries →
    ((place : ℕ) → place < length core.entries → IsFresh (account_at core place) (meter_at meters place)) → SeesNeeds meters core []
sees_begun {meters} {core} listed starts count fresh = record {
  count = count;
  each = λ place within script.
      let inside : place < length (start_list_of listed).starts =
      omega (arith, within, ap (λ w. length w.entries) starts, length-map (start_list_of listed).starts (λ (start : StartEntry). start.entry)) in
      subst (λ budget. HasObserved (entry_at core.entries place) [] budget (state_at core.states place) (meter_at meters place)) (ap limits (own_account core place script))
      (fresh place within (entry_at core.entries place) (state_at core.states place) script
      (ap (λ w. (state_at w.states place).gone) starts ∙ starts_here listed place inside) (own_account core place script)
      (ap (λ w. (state_at w.states place).heap.shape.growth) starts ∙ starts_low listed place inside));
}

-- ---- what is needed

script_kind : (binary : Binary) → is_script binary ≡ true → kind_of binary ≡ Kind.Script
script_kind Script is = refl
script_kind (Server service offer) is = absurd (true≢false (sym is))
script_kind Init is = absurd (true≢false (sym is))

-- sums are alike where what scripts need is
summed_alike : (init : Option (List ℕ)) (one other : ℕ → Needed) (sum : Amounts) (a : ℕ) (es : List ListedEntry) →
    ((k : ℕ) → k < length es → is_script (get_or es k unlisted).binary ≡ true → one (a + k) ≡ other (a + k)) → summed init one sum a es ≡ summed init other sum a es
summed_alike init one other sum a [] same = refl
summed_alike init one other sum a (e ∷ es) same =
    ap (λ s. summed init one s (a + 1) es) (here (is_script e.binary) refl (lies_below init e.path))
    ∙ summed_alike init one other (cond (counts_below init e) (added sum (added (other a).need (reserve_of e))) sum) (a + 1) es
    (λ k within script. let next : a + suc k ≡ (a + 1) + k = omega arith in subst (λ n. one n ≡ other n) next (same (suc k) (omega (arith, within)) script))
  where
    here : (b : Bool) → is_script e.binary ≡ b → (c : Bool) →
        cond (b && c) (added sum (added (one a).need (reserve_of e))) sum ≡ cond (b && c) (added sum (added (other a).need (reserve_of e))) sum
    here false is c = refl
    here true is false = refl
    here true is true =
        let at : a + zero ≡ a = omega arith in
        ap (λ needed. added sum (added needed.need (reserve_of e))) (subst (λ n. one n ≡ other n) at (same zero (omega arith) is))

module _ {meters : List AccountMeter} (listed : Listed) {start : World} {calls : List (List ℕ)} (sees : SeesNeeds meters start calls) (entries : start.entries ≡ entries_of (start_list_of listed)) where
  -- of a script
  needed_is : (place : ℕ) → place < length listed.entries → is_script (listed_at listed place).binary ≡ true → needed_of meters place ≡ needed_by_calls start calls place
  needed_is place within script = λ i. record {
    need = record { ram = (heard.shown i).ram; caps = (heard.shown i).caps };
    gone = gone i;
  }
    where
      kind : (entry_at start.entries place).kind ≡ Kind.Script
      kind = ap (λ es. (entry_at es place).kind) entries ∙ kind_here listed place within ∙ script_kind (listed_at listed place).binary script

      heard : HasObserved (entry_at start.entries place) (own_calls start calls place) (budget_at start place) (state_at start.states place) (meter_at meters place)
      heard = sees.each place (omega (arith, within, entries_listed listed start entries)) kind

      gone : (meter_at meters place).is_gone ≡ (state_at (world_running start calls).states place).gone
      gone = heard.knows.gone ∙ sym (ap (λ s. s.gone) (states_running-at start.entries start.states calls place))

  -- of an init
  pub below_is : (init : Option (List ℕ)) → needed_below init (needed_of meters) listed ≡ needed_below init (needed_by_calls start calls) listed
  below_is init =
      ap (λ need. record { need = need; gone = false })
      (summed_alike init (needed_of meters) (needed_by_calls start calls) no_amounts 0 listed.entries
      (λ k within script. let at : k ≡ 0 + k = omega arith in subst (λ n. needed_of meters n ≡ needed_by_calls start calls n) at (needed_is k within script)))

  -- and of any component
  pub running_is : (place : ℕ) → place < length listed.entries →
      needed_running (listed_at listed place).binary (needed_of meters) listed place ≡ needed_running (listed_at listed place).binary (needed_by_calls start calls) listed place
  running_is place within = by (listed_at listed place).binary refl
    where
      by : (binary : Binary) → (listed_at listed place).binary ≡ binary → needed_running binary (needed_of meters) listed place ≡ needed_running binary (needed_by_calls start calls) listed place
      by Script is = needed_is place within (ap is_script is)
      by (Server service offer) is = refl
      by Init is = below_is (Some (listed_at listed place).path)
