-- Accounts that are added, and those that are left.
use Rattle.std.proofs.Common.{◌≡◌, ◌++◌, length}
use Rattle.std.specs.Vec.Iter.{into_iter_items, into_iter_len}
use Rattle.budget_least.proofs.report_accounts.add_all.Given as goal

abbrev pub invariant-loop-account : goal.invariant-loop-account
invariant-loop-account l = record {
  all : l.accounts.items ++ into_iter_items l.account-iterator ≡ l.initial.accounts.items ++ into_iter_items l.initial.account-iterator;
  exact : into_iter_len l.account-iterator ≡ length (into_iter_items l.account-iterator);
}
