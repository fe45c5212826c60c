-- The run from the donation, and the runs from all others.
use Rattle.std.proofs.Common.{arith, ◌≡◌, ℕ, Some, refl, sym, ap, subst, ◌∙◌, ◌<◌, ◌^◌}
use Rattle.std.specs.Prelude.{slice_get}
use Rattle.own_model.specs.Amounts.{Amounts}
use Rattle.own_model.specs.Transcript.{entry_at}
use Rattle.budget_search.specs.Alike.{own_entry, most_in}
use Rattle.budget_search.specs.BudgetIntervals.{lowest_of, safe_of, HasRunLines}
use Rattle.budget_search.specs.OpenedSessions.{opened_with, sent_at, suffices_of, AreExactOf}
use Rattle.budget_search.specs.ReachedSessions.{reached_of}
use Rattle.budget_search.specs.RunLines.{RunLines}
use Rattle.budget_search.specs.SessionAccounts.{most_for}
use Rattle.budget_search.specs.SessionLines.{session_lines}
use Rattle.budget_search.specs.Sufficient.{HasLeast, HasSafe}
use Rattle.budget_search.proofs.FaultLemmas.{passed_on, lacks_donation, lacks_most}
use Rattle.budget_search.proofs.SessionLemmas.{some_is}
use Rattle.budget_search.proofs.script_search.ScriptSearch.session.Goals as goal

abbrev as_amounts : ℕ → ℕ → Amounts
as_amounts ram caps = record { ram = ram; caps = caps }

pub returns-clause-account : goal.returns-clause-account
returns-clause-account g c = λ before.
    let list = c.args.self.now.list.now in
    let component = c.args.self.now.component in
    let one = reached_of c.args.opened.now in
    let sent = sent_at c.args.steps.now one.places in
    let opening = slice_get c.args.steps.now one.opening in
    let rows = c.in_ok-found.found.rows.items in
    let some = some_is (opened_with (entry_at c.args.client.now.core.entries c.args.client.now.client) opening) (c.in_ok-given.ensures.opened before.ready) in
    let session = some.0 in
    let ready = c.in_ok-given.ensures.ready session before.ready some.1 in
    let again = (λ i. opened_with (entry_at (c.trial.ensures.entries i) (c.trial.ensures.same i)) opening) ∙ some.1 in
    let ram : c.saturating_sub.result ≡ (most_for list component one).ram =
    omega (arith, c.saturating_sub.ensures, c.most_beside-most.ensures.ram, ap (λ (reserve : Amounts). reserve.ram) c.reserve_of.ensures) in
    let caps : c.saturating_sub-2.result ≡ (most_for list component one).caps =
    omega (arith, c.saturating_sub-2.ensures, c.most_beside-most.ensures.caps, ap (λ (reserve : Amounts). reserve.caps) c.reserve_of.ensures) in
    let most : as_amounts c.saturating_sub.result c.saturating_sub-2.result ≡ most_for list component one = λ i. record { ram = ram i; caps = caps i } in
    record {
      same = refl;
      key = ap (λ n. Some (record { selector = one.selector; line = n })) c.number_of.ensures;
      count = refl;
      given = refl;
      reserve = refl;
      session = session;
      opens = sym (ap (λ entry. opened_with entry opening) before.same) ∙ some.1;
      refused = (c.in_ok-given.ensures.run session before.ready some.1).want;
      line = ap (λ (found : RunLines). found.refused) (c.in_ok-given.ensures.lines session before.ready some.1);
      exact = subst (λ (most : Amounts). AreExactOf sent session most.caps most.ram rows) most (c.in_ok-found.ensures.exact session ready again);
      least = subst (λ most. HasLeast (suffices_of sent session) most (lowest_of rows)) most (c.in_ok-found.ensures.least session ready again);
      safe = subst (λ most. HasSafe (suffices_of sent session) most (safe_of rows)) most (c.in_ok-found.ensures.safe session ready again);
      lines =
          subst (λ most. HasRunLines (session_lines c.args.steps.now one.opening one.places session) most c.in_ok-found.found) most
          (c.in_ok-found.ensures.lines session ready again);
    }

pub returns-clause-ready : goal.returns-clause-ready
returns-clause-ready g c = λ before.
    let opening = slice_get c.args.steps.now c.args.opened.now.step in
    let entry = own_entry c.args.self.now.list.now c.args.self.now.component in
    let some = some_is (opened_with (entry_at c.args.client.now.core.entries c.args.client.now.client) opening) (c.in_ok-given.ensures.opened before.ready) in
    c.in_ok-found.ensures.ready entry (most_in c.args.self.now.list.now c.args.self.now.component) some.0
    (record {
      ready = c.in_ok-given.ensures.ready some.0 before.ready some.1;
      same = (λ i. entry_at (c.trial.ensures.entries i) (c.trial.ensures.same i)) ∙ before.same;
      whole_is = c.trial.ensures.whole ∙ before.whole_is;
    })
    (sym (ap (λ e. opened_with e opening) before.same) ∙ some.1)

pub returns-in_err-found-clause-fault : goal.returns-in_err-found-clause-fault
returns-in_err-found-clause-fault g c =
    let opening = slice_get c.args.steps.now c.args.opened.now.step in
    passed_on _ _ c.from_residual-in_err-found.result c.from_residual-in_err-found.ensures.1
    (λ other before.
    let some = some_is (opened_with (entry_at c.args.client.now.core.entries c.args.client.now.client) opening) (c.in_ok-given.ensures.opened before.ready) in
    c.in_err-found.ensures.fault other some.0 (c.in_ok-given.ensures.ready some.0 before.ready some.1)
    ((λ i. opened_with (entry_at (c.trial.ensures.entries i) (c.trial.ensures.same i)) opening) ∙ some.1))

pub returns-in_err-given-clause-lacks : goal.returns-in_err-given-clause-lacks
returns-in_err-given-clause-lacks g c =
    let list = c.args.self.now.list.now in
    let component = c.args.self.now.component in
    let one = reached_of c.args.opened.now in
    let opening = slice_get c.args.steps.now one.opening in
    passed_on _ _ c.from_residual.result c.from_residual.ensures.1
    (λ other before of_lines.
    let some = some_is (opened_with (own_entry list component) opening) of_lines.routed in
    lacks_donation list component c.args.steps.now one c.args.client.now.core c.args.client.now.client before.whole_is of_lines.raised
    (λ few. c.in_err-given.ensures.lacks other few some.0 before.ready (ap (λ entry. opened_with entry opening) before.same ∙ some.1)))

pub returns-in_err-found-clause-lacks : goal.returns-in_err-found-clause-lacks
returns-in_err-found-clause-lacks g c =
    let list = c.args.self.now.list.now in
    let component = c.args.self.now.component in
    let one = reached_of c.args.opened.now in
    let opening = slice_get c.args.steps.now one.opening in
    let ram : c.saturating_sub.result ≡ (most_for list component one).ram =
    omega (arith, c.saturating_sub.ensures, c.most_beside-most.ensures.ram, ap (λ (reserve : Amounts). reserve.ram) c.reserve_of.ensures) in
    let caps : c.saturating_sub-2.result ≡ (most_for list component one).caps =
    omega (arith, c.saturating_sub-2.ensures, c.most_beside-most.ensures.caps, ap (λ (reserve : Amounts). reserve.caps) c.reserve_of.ensures) in
    let few : c.saturating_sub-2.result < 2 ^ 32 = omega (arith, c.saturating_sub-2.ensures, c.most_beside-most.ensures.caps) in
    passed_on _ _ c.from_residual-in_err-found.result c.from_residual-in_err-found.ensures.1
    (λ other before of_lines.
    let some = some_is (opened_with (entry_at c.args.client.now.core.entries c.args.client.now.client) opening) (c.in_ok-given.ensures.opened before.ready) in
    lacks_most list component c.args.steps.now one c.trial.new.client.core c.trial.new.client.client (c.trial.ensures.whole ∙ before.whole_is) of_lines.raised
    (λ can. c.in_err-found.ensures.lacks other few some.0 (c.in_ok-given.ensures.ready some.0 before.ready some.1)
    ((λ i. opened_with (entry_at (c.trial.ensures.entries i) (c.trial.ensures.same i)) opening) ∙ some.1)
    (record { ram_fits = omega (arith, can.ram_fits, ram); caps_fit = omega (arith, can.caps_fit, caps) })))
