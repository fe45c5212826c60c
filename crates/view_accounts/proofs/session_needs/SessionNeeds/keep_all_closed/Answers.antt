-- In the order of their openings.
use Rattle.std.proofs.Common.{rules}
use Rattle.std.proofs.lemmas.List.Sorted.{IsNonDecreasingBy-from_sort_by_key}
use Rattle.view_accounts.specs.Kept.{found}
use Rattle.view_accounts.specs.declared.session_needs.Ended.{Ended}
use Rattle.view_accounts.proofs.ClosingLemmas.{closes_all}
use Rattle.view_accounts.proofs.session_needs.SessionNeeds.keep_all_closed.Goals as goal

pub returns-clause-closed : goal.returns-clause-closed
returns-clause-closed c =
    closes_all c.keep_each_closed.result (found c.args.peaks.now.sessions c.args.component) c.args.component c.args.ended.items c.sort_unstable_by_key.new.self.items _ _
    c.sort_unstable_by_key.ensures.permutation
    (IsNonDecreasingBy-from_sort_by_key (λ (e : Ended). e.earlier) _ c.sort_unstable_by_key.ensures.sorted (λ a r q k. search rules))
    (rw c.as_slice.ensures.value at c.keep_each_closed.ensures.closed)
