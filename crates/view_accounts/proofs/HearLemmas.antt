-- What the meters have heard once a line more was answered.
use Rattle.std.proofs.Common.{◌≡◌, ℕ, ◌<◌, List, [], ◌∷◌, ◌++◌, length, Some, None, sym, ◌∙◌, ap, subst, arith}
use Rattle.std.specs.Prelude.{◌≢◌}
use Rattle.own_model.specs.Call.{Call, Spoken}
use Rattle.own_model.specs.Listed.{Listed, start_list_of}
use Rattle.own_model.specs.OwnState.{OwnState}
use Rattle.own_model.specs.OwnStep.{own_run, own_step}
use Rattle.own_model.specs.StartList.{Entry, entries_of}
use Rattle.own_model.specs.Transcript.{calls_in, entry_at, heard, heard_spoken, state_at}
use Rattle.own_model.specs.Transcript.Heard.{Stranger, Caller}
use Rattle.own_model.specs.World.{World, account_at}
use Rattle.core_calls.specs.Quotas.{quotas_account}
use Rattle.core_calls.specs.declared.quotas.Quotas.{Quotas}
use Rattle.budget_meter.specs.Metered.{HasObserved, HasReply}
use Rattle.budget_meter.specs.declared.account.AccountMeter.{AccountMeter}
use Rattle.run_lines.specs.declared.line_answer.LineAnswer.{LineAnswer}
use Rattle.view_accounts.specs.Meters.{SeesNeeds, meter_at}
use Rattle.view_accounts.specs.Needs.{limits, own_calls}
use Rattle.run_lines.proofs.AccountLemmas.{entries_listed}
use Rattle.run_scenario.specs.Said.{said_in}
use Rattle.run_scenario.specs.Observation.{IsAnsweredAfter}
use Rattle.view_accounts.proofs.KeptLemmas.{heard_said}
use Rattle.view_accounts.proofs.NeedLemmas.{is_told, sees_called, sees_silent}

-- ---- what a line is heard as

pub calls_none : (entries : List Entry) (line : List ℕ) → said_in line ≡ None → calls_in (heard entries line) ≡ []
calls_none entries line none = ap calls_in (heard_said entries line ∙ ap (heard_spoken entries) none)

pub calls_nobody : (entries : List Entry) (line : List ℕ) (says : Spoken) → said_in line ≡ Some says → heard_spoken entries (Some says) ≡ Stranger says.name → calls_in (heard entries line) ≡ []
calls_nobody entries line says said is = ap calls_in (heard_said entries line ∙ ap (heard_spoken entries) said ∙ is)

pub calls_one : (entries : List Entry) (line : List ℕ) (says : Spoken) (component : ℕ) → said_in line ≡ Some says →
    heard_spoken entries (Some says) ≡ Caller (record { component = component; call = says.call }) → heard entries line ≡ Caller (record { component = component; call = says.call })
calls_one entries line says component said is = heard_said entries line ∙ ap (heard_spoken entries) said ∙ is

-- ---- what was heard then

module _ {start core : World} {earlier : List (List ℕ)} {line : List ℕ} {answer : LineAnswer} (listed : Listed)
    (entries : core.entries ≡ entries_of (start_list_of listed)) (told : IsAnsweredAfter start earlier line core answer) where
  pub begins : entries_of (start_list_of listed) ≡ start.entries
  begins = sym entries ∙ ap (λ w. w.entries) told.leaves

  -- a component of the list is there from the start
  pub inside : {component : ℕ} → component < length listed.entries → component < length start.entries
  inside {component} within = subst (λ n. component < n) (sym (entries_listed listed start (sym begins))) within

module _ {meters : List AccountMeter} {start : World} {earlier : List (List ℕ)} {line : List ℕ} {core : World} {answer : LineAnswer} (listed : Listed)
    (entries : core.entries ≡ entries_of (start_list_of listed)) (sees : SeesNeeds meters start earlier) (told : IsAnsweredAfter start earlier line core answer) where
  pub still_sees : calls_in (heard (entries_of (start_list_of listed)) line) ≡ [] → SeesNeeds meters start (earlier ++ line ∷ [])
  still_sees none = sees_silent sees line (subst (λ es. calls_in (heard es line) ≡ []) (begins listed entries told) none)

  pub sees_more : (component : ℕ) (call : Call) (after : Quotas) (meters' : List AccountMeter) →
      heard (entries_of (start_list_of listed)) line ≡ Caller (record { component = component; call = call }) → quotas_account after ≡ account_at core component →
      length meters' ≡ length meters → ((place : ℕ) → place ≢ component → meter_at meters' place ≡ meter_at meters place) →
      (component < length meters → (entry : Entry) (calls : List Call) (s : OwnState) → HasObserved entry calls (limits s.account) s (meter_at meters component) →
      HasReply answer.reply.now after (own_step entry call (own_run entry calls s)) → HasObserved entry (calls ++ call ∷ []) (limits s.account) s (meter_at meters' component)) →
      SeesNeeds meters' start (earlier ++ line ∷ [])
  sees_more component call after meters' is account count others own =
      sees_called sees line component call meters' here count others
      (λ within script has.
      own (omega (arith, within, sees.count)) (entry_at start.entries component) (own_calls start earlier component) (state_at start.states component) has
      (is_told start earlier line component call here after told script account))
    where
      here : heard start.entries line ≡ Caller (record { component = component; call = call })
      here = subst (λ es. heard es line ≡ Caller (record { component = component; call = call })) (begins listed entries told) is
