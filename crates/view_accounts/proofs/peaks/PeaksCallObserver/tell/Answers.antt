-- The peaks of who called, and of the sessions of its call: what else there is stays.
use Rattle.std.proofs.Common.{◌≡◌, ◌∙◌, [], length, ap, subst, sym}
use Rattle.own_model.specs.Listed.{start_list_of}
use Rattle.own_model.specs.StartList.{entries_of}
use Rattle.own_model.specs.Transcript.{calls_in, heard}
use Rattle.own_model.specs.Transcript.Heard.{Caller}
use Rattle.core_calls.specs.Call.{model_call}
use Rattle.run_devices.proofs.GatheredLemmas.{Tells-none, told_err}
use Rattle.view_accounts.specs.Kept.{found, noted_after, peak_at, peaked}
use Rattle.view_accounts.proofs.KeptLemmas.{is_outcome, sees_called, sees_silent}
use Rattle.view_accounts.proofs.peaks.PeaksCallObserver.tell.Goals as goal

pub returns-in_default-clause-seen : goal.returns-in_default-clause-seen
returns-in_default-clause-seen g c = λ start earlier sees told.
    let line = c.args.heard.now.line.now in
    let begins : entries_of (start_list_of c.args.list.now) ≡ start.entries = sym c.requires.listed ∙ ap (λ w. w.entries) told.leaves in
    sees_silent sees line (subst (λ entries. calls_in (heard entries line) ≡ []) begins c.in_default.ensures.none)

pub returns-in_err-follow-clause-told : goal.returns-in_err-follow-clause-told
returns-in_err-follow-clause-told g c = λ start earlier sees told. told_err _ _ _ c.from_residual.ensures.1 (_, Tells-none _ _)

pub returns-clause-seen : goal.returns-clause-seen
returns-clause-seen g c = λ start earlier sees told.
    let line = c.args.heard.now.line.now in
    let component = c.in-Some.component in
    let call = model_call c.in-Some.call in
    let outcome = c.of-outcome.result in
    let new = c.follow.new.self in
    let begins : entries_of (start_list_of c.args.list.now) ≡ start.entries = sym c.requires.listed ∙ ap (λ w. w.entries) told.leaves in
    let here : heard start.entries line ≡ Caller (record { component = component; call = call }) =
    subst (λ entries. heard entries line ≡ Caller (record { component = component; call = call })) begins c.in-Some.ensures.some in
    let same : new.components.items ≡ c.raise_component.new.self.components.items = c.in_ok-follow.ensures.components in
    sees_called sees line component call here outcome
    (is_outcome told component call here outcome c.of-outcome.ensures.opened c.of-outcome.ensures.done c.of-outcome.ensures.refused)
    c.args.core.now told.leaves (peaked new.init) new.components.items new.sessions
    (ap peaked (c.in_ok-follow.ensures.init ∙ c.raise_component.ensures.init))
    (ap length same ∙ c.raise_component.ensures.count)
    (λ place apart. ap (λ peaks. peak_at peaks place) same ∙ c.raise_component.ensures.others place apart)
    (λ within. ap (λ peaks. peak_at peaks component) same ∙ c.raise_component.ensures.own within)
    (λ k q.
    c.in_ok-follow.ensures.sessions k q
    ∙ ap (λ sessions. noted_after c.args.list.now c.args.core.now component call outcome k q (found sessions k q)) c.raise_component.ensures.sessions)
