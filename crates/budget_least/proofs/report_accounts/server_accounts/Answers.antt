-- A component that makes no calls has the budget of its entry.
use Rattle.std.proofs.Common.{◌≡◌, [], get_or, length, Some, refl, ap, subst, ◌∙◌}
use Rattle.std.specs.List.{slice_get}
use Rattle.std.proofs.lemmas.Option.{slice_get_read}
use Rattle.budget_meter.specs.Needs.{amounts_of}
use Rattle.budget_search.proofs.AlikeLemmas.{given_told}
use Rattle.budget_search.specs.AccountNeeds.{IsIdle}
use Rattle.budget_search.specs.Alike.{given_in}
use Rattle.budget_least.proofs.SessionLemmas.{own_none}
use Rattle.budget_least.specs.LineDonations.{sessions_in}
use Rattle.budget_least.proofs.report_accounts.server_accounts.Goals as goal

pub returns-clause-accounts : goal.returns-clause-accounts
returns-clause-accounts c = λ steps.
    let list = c.args.list.now in
    let component = c.args.component in
    let entry = c.index-entries-component.result in
    let there : slice_get list.entries component ≡ Some entry =
    slice_get_read list.entries (length list.entries) component entry refl c.requires.there
    (subst (λ es. entry ≡ get_or es component entry) c.entries.ensures c.index-entries-component.is) in
    let given : amounts_of c.budget_of-given.result ≡ given_in list component =
    given_told list component entry there c.budget_of-given.result c.budget_of-given.ensures.ram c.budget_of-given.ensures.caps in
    record {
      sessions = [];
      own = c.in_ok-idle.idle;
      these = c.in_ok-accounts.ensures;
      sessions_are = record { script = λ kind. absurd (c.requires.other kind); other = λ other. refl };
      own_is = record {
        same = c.in_ok-idle.ensures.same;
        own = c.in_ok-idle.ensures.own;
        given = c.in_ok-idle.ensures.given_is ∙ given;
        script = λ kind. absurd (c.requires.other kind);
        server = λ other none. subst (λ g. IsIdle component g c.in_ok-idle.idle) given c.in_ok-idle.ensures;
      };
    }

pub returns-clause-sessions : goal.returns-clause-sessions
returns-clause-sessions c = ap sessions_in c.in_ok-accounts.ensures ∙ own_none c.in_ok-idle.idle c.in_ok-idle.ensures.own
