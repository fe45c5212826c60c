-- On a machine on which every account is ample.
use Rattle.std.proofs.lemmas.Result.{IfErr-weaker}
use Rattle.std.proofs.Common.{rules, ◌≡◌, [], refl, sym, subst}
use Rattle.std.specs.Prelude.{◌⊎◌, map, Some}
use Rattle.std.specs.List.{AllByRecursion}
use Rattle.list_parser.specs.Quota.{quota_fault}
use Rattle.budget_search.specs.Alike.{most_in, own_entry}
use Rattle.budget_search.specs.NoBudgets.{HasNoRoom}
use Rattle.budget_search.proofs.FaultLemmas.{ample_lacks, ample_large, passed_on}
use Rattle.budget_search.specs.ReachedSessions.{reached_of, sessions_of, IsOfLines}
use Rattle.budget_search.specs.SessionAccounts.{AreCounted}
use Rattle.budget_search.proofs.RoutedLemmas.{all_of_lines}
use Rattle.budget_search.proofs.SessionLemmas.{each_ok}
use Rattle.budget_search.proofs.script_search.ScriptSearch.session_accounts.Goals as goal

pub returns-clause-accounts : goal.returns-clause-accounts
returns-clause-accounts c =
    each_ok c.opened_accounts.result
    (λ found counted script. record {
      opened = (sessions_of c.in_ok-opened.opened).opened;
      opened_are = record {
        machine = c.in_ok-ample.ample;
        ample = c.in_ok-ample.ensures.funded;
        end = sessions_of c.in_ok-opened.opened;
        reach = c.in_ok-opened.ensures.reached;
        these = refl;
      };
      counted =
          subst (λ sessions. AreCounted c.args.self.now.list.now c.args.self.now.component c.args.steps.now (map reached_of sessions) [] found.items)
          c.as_slice.ensures.value (counted script c.in_ok-ample.ensures.funded);
    })
    c.opened_accounts.ensures.accounts

pub returns-in_err-opened-clause-fault : goal.returns-in_err-opened-clause-fault
returns-in_err-opened-clause-fault c =
    let list = c.args.self.now.list.now in
    let component = c.args.self.now.component in
    passed_on _ _ c.from_residual-in_err-opened.result c.from_residual-in_err-opened.ensures.1
    (λ other script.
    ample_large list component c.in_ok-ample.ample _ script c.in_ok-ample.ensures.funded c.in_ok-ample.ensures.boots (c.in_err-opened.ensures.fault other))

pub returns-clause-fault : goal.returns-clause-fault
returns-clause-fault c =
    let list = c.args.self.now.list.now in
    let component = c.args.self.now.component in
    IfErr-weaker c.opened_accounts.result _ _
    (λ fault lacks other script.
    ample_lacks list component c.in_ok-ample.ample c.args.steps.now (sessions_of c.in_ok-opened.opened) fault script c.in_ok-ample.ensures.funded
    c.in_ok-ample.ensures.boots c.in_ok-opened.ensures.reached
    (subst (λ sessions. (quota_fault c.in_ok-ample.ample ≡ Some fault) ⊎ HasNoRoom list component (map reached_of sessions) fault) c.as_slice.ensures.value
    (lacks other script c.in_ok-ample.ensures.funded
    (subst (λ sessions. AllByRecursion (IsOfLines (own_entry list component) c.args.steps.now) (map reached_of sessions)) (sym c.as_slice.ensures.value)
    (all_of_lines c.in_ok-ample.ample list component (most_in list component) (search rules) c.in_ok-ample.ensures.funded c.args.steps.now (sessions_of c.in_ok-opened.opened)
    c.in_ok-opened.ensures.reached)))))
    c.opened_accounts.ensures.fault
