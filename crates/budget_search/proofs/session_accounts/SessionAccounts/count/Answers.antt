-- The account at the place has one session more.
use Rattle.std.proofs.Common.{arith, ◌≡◌, ◌+◌, ap, ◌∙◌}
use Rattle.budget_search.proofs.CountLemmas.{set_is_changed}
use Rattle.budget_search.specs.AmpleCalls.{of_word}
use Rattle.budget_search.specs.SessionAccounts.{with_one_more}
use Rattle.budget_search.proofs.session_accounts.SessionAccounts.count.Goals as goal

pub returns-clause-accounts : goal.returns-clause-accounts
returns-clause-accounts c =
    let other = c.index_mut-other.result.now in
    let count : c.saturating_add-other.result ≡ of_word (other.count + 1) = omega (arith, c.saturating_add-other.ensures) in
    set_is_changed with_one_more c.args.self.now.accounts.items c.args.place other _ c.requires
    ((λ i. record other { count = count i }) ∙ ap with_one_more c.index_mut-other.ensures.value)
