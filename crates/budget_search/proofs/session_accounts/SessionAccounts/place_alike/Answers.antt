-- One after another.
use Rattle.std.proofs.Common.{arith, refl, sym, subst, ◌∙◌}
use Rattle.std.proofs.lemmas.Option.{same_Some, slice_get_read}
use Rattle.budget_search.proofs.CountLemmas.{no_truth}
use Rattle.budget_search.proofs.ItemLemmas.{next_item, no_item}
use Rattle.budget_search.specs.SessionAccounts.{IsAlike, NoneIsAlike}
use Rattle.budget_search.specs.declared.account_budgets.AccountBudgets.{AccountBudgets}
use Rattle.budget_search.proofs.session_accounts.SessionAccounts.place_alike.Goals as goal

pub loop-place-preserved : goal.loop-place-preserved
loop-place-preserved c = record {
  left = λ rest.
      c.loop-place.invariant.left
      (subst (NoneIsAlike c.args.account.now)
      (sym (next_item c.args.self.now.accounts.items c.loop-place.place c.index.result.now (omega (arith, c.loop-place-test.true, c.len-place-end.ensures, c.args.self.now.accounts.ok.0)) c.index.ensures))
      ((λ alike. no_truth c.is_alike.result c.if-is_alike.false (c.is_alike.ensures.1 alike)), rest));
}

pub returns-clause-none : goal.returns-clause-none
returns-clause-none c =
    c.loop-place.invariant.left
    (subst (NoneIsAlike c.args.account.now)
    (sym (no_item c.args.self.now.accounts.items c.loop-place.place (omega (arith, c.loop-place-test.false, c.len-place-end.ensures, c.args.self.now.accounts.ok.0)))) tt)

pub returns-then-is_alike-clause-alike : goal.returns-then-is_alike-clause-alike
returns-then-is_alike-clause-alike c = λ other there.
    let read = slice_get_read c.args.self.now.accounts.items _ c.loop-place.place c.index.result.now refl
    (omega (arith, c.loop-place-test.true, c.len-place-end.ensures, c.args.self.now.accounts.ok.0)) c.index.ensures in
    subst (λ (a : AccountBudgets). IsAlike a c.args.account.now) (same_Some c.index.result.now other (sym read ∙ there)) (c.is_alike.ensures.0 c.if-is_alike.true)
