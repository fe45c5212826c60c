-- The sessions so far are counted, and the client is ready for the next.
use Rattle.std.proofs.Common.{drop, List, []}
use Rattle.std.specs.Prelude.{map}
use Rattle.budget_search.specs.Alike.{most_in, own_entry}
use Rattle.budget_search.specs.OpenedSessions.{IsReadyFor}
use Rattle.budget_search.specs.ReachedSessions.{reached_of}
use Rattle.budget_search.specs.SessionAccounts.{AreCounted, HaveLines}
use Rattle.budget_search.specs.declared.account_budgets.AccountBudgets.{AccountBudgets}
use Rattle.budget_search.proofs.script_search.ScriptSearch.needs.Given as goal

abbrev pub invariant-loop-opened : goal.invariant-loop-opened
invariant-loop-opened g l = record {
  ready : IsReadyFor (own_entry l.self.list.now l.self.component) (most_in l.self.list.now l.self.component) l.initial.client.core l.initial.client.client →
      IsReadyFor (own_entry l.self.list.now l.self.component) (most_in l.self.list.now l.self.component) l.client.core l.client.client;
  lines : HaveLines l.accounts;
  counted : IsReadyFor (own_entry l.self.list.now l.self.component) (most_in l.self.list.now l.self.component) l.initial.client.core l.initial.client.client → (end : List AccountBudgets) →
      AreCounted l.self.list.now l.self.component l.steps (map reached_of (drop l.opened-index l.sessions)) l.accounts.accounts.items end →
      AreCounted l.self.list.now l.self.component l.steps (map reached_of l.sessions) [] end;
}
