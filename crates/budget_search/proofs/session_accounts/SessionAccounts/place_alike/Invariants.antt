-- None of those before the place is alike.
use Rattle.std.proofs.Common.{drop}
use Rattle.budget_search.specs.SessionAccounts.{NoneIsAlike}
use Rattle.budget_search.proofs.session_accounts.SessionAccounts.place_alike.Given as goal

abbrev pub invariant-loop-place : goal.invariant-loop-place
invariant-loop-place l = record { left : NoneIsAlike l.account (drop l.place l.self.accounts.items) → NoneIsAlike l.account l.self.accounts.items }
