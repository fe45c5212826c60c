-- The session is found under its selector.
use Rattle.std.proofs.Common.{List, Option, Some, ℕ, ◌≡◌, ◌==◌, ◌&&◌, ◌∙◌, sym, ap}
use Rattle.own_model.specs.Amounts.{Amounts}
use Rattle.own_model.specs.Listed.{route_of}
use Rattle.own_model.specs.Routes.{label_with}
use Rattle.own_model.specs.Session.{given}
use Rattle.own_model.specs.Transcript.{entry_at}
use Rattle.core_calls.specs.Quotas.{quotas_account}
use Rattle.run_lines.proofs.AccountLemmas.{entries_within}
use Rattle.view_accounts.specs.Kept.{found}
use Rattle.view_accounts.specs.Peaks.{Noted, session_at}
use Rattle.view_accounts.specs.SessionTable.{value_at}
use Rattle.view_accounts.proofs.KeptLemmas.{begun_there, found_opened, found_unopened}
use Rattle.std.proofs.lemmas.Result.{on_ok_weaker}
use Rattle.view_accounts.proofs.peaks.Peaks.keep_new.Goals as goal

abbrev noted_with : Amounts → Option ℕ → List ℕ → Noted
noted_with peak server label = record { peak = peak; server = server; label = label }

pub returns-in_default-clause-sessions : goal.returns-in_default-clause-sessions
returns-in_default-clause-sessions g c = λ k q.
    found_unopened (k == c.args.opening.component && q == c.args.selector) (session_at c.args.opening.component c.args.selector c.args.core.now) _ (found c.args.self.now.sessions k q) c.in_default.ensures

pub label-requires : goal.label-requires
label-requires g c = entries_within c.args.list.now c.args.core.now c.requires.listed c.requires.component

pub route-requires : goal.route-requires
route-requires g c = record {
  client = entries_within c.args.list.now c.args.core.now c.requires.listed c.requires.component;
  label = c.label_given-given.ensures.short;
}

pub returns-clause-sessions : goal.returns-clause-sessions
returns-clause-sessions g c =
    let server = route_of c.args.list.now c.args.opening.component c.args.opening.service.now (given c.args.opening.args.now).label in
    let label = label_with (entry_at c.args.core.now.entries c.args.opening.component).label (given c.args.opening.args.now).label in
    let server_is : c.route.result ≡ server = c.route.ensures ∙ ap (route_of c.args.list.now c.args.opening.component c.args.opening.service.now) c.label_given-given.ensures.label in
    let client_is : c.label.result.now ≡ (entry_at c.args.core.now.entries c.args.opening.component).label = c.label.ensures.listed ∙ ap (λ entries. (entry_at entries c.args.opening.component).label) (sym c.requires.listed) in
    let label_is : c.in_ok-label_of.field-0.items ≡ label = c.in_ok-label_of.ensures ∙ (λ i. label_with (client_is i) (c.label_given-given.ensures.label i)) in
    on_ok_weaker c.set.result
    (λ is k q.
    found_opened (k == c.args.opening.component && q == c.args.selector) _ _ (value_at c.args.self.now.sessions k q) _ (is k q)
    ((λ i. Some (noted_with (c.of.ensures i) (server_is i) (label_is i))) ∙ begun_there (session_at c.args.opening.component c.args.selector c.args.core.now) (quotas_account c.in-Some.account) server label c.in-Some.ensures))
    c.set.ensures
