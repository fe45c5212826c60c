-- One session after another.
use Rattle.std.proofs.Common.{◌+◌, drop, refl, sym, subst}
use Rattle.std.specs.Prelude.{map}
use Rattle.std.specs.List.{AllByRecursion}
use Rattle.budget_search.specs.ReachedSessions.{reached_of}
use Rattle.budget_search.specs.SessionAccounts.{AreCounted, HasLine}
use Rattle.budget_search.specs.declared.account_budgets.AccountBudgets.{AccountBudgets}
use Rattle.budget_search.proofs.FaultLemmas.{passed_on, no_room_at}
use Rattle.budget_search.proofs.ItemLemmas.{next_item, no_item}
use Rattle.budget_search.proofs.script_search.ScriptSearch.needs.Goals as goal

pub loop-opened-init : goal.loop-opened-init
loop-opened-init g c = record {
  ready = λ before. before;
  lines = subst (AllByRecursion (λ (account : AccountBudgets). HasLine c.new-accounts.result.lines account.session)) (sym c.new-accounts.ensures) tt;
  counted = λ before end are.
      subst (λ old. AreCounted c.args.self.now.list.now c.args.self.now.component c.args.steps.now (map reached_of c.args.sessions.now) old end) c.new-accounts.ensures are;
}

pub loop-opened-preserved : goal.loop-opened-preserved
loop-opened-preserved g c =
    let kept = c.loop-opened.invariant in
    let sessions = c.args.sessions.now in
    let i = c.loop-opened.opened-index in
    let item = c.opened-item.result in
    record {
      ready = λ before. c.in_ok-add_session.ensures.ready (kept.ready before);
      lines = c.in_ok-add_session.ensures.lines kept.lines;
      counted = λ before end are.
          kept.counted before end
          (subst
          (λ rest. AreCounted c.args.self.now.list.now c.args.self.now.component c.args.steps.now (map reached_of rest) c.loop-opened.accounts.accounts.items end)
          (sym (next_item sessions i item c.loop-opened-test.true c.opened-item.is))
          (c.in_ok-add_session.ensures.counted (kept.ready before) kept.lines (map reached_of (drop (i + 1) sessions)) end are));
    }

pub returns-clause-accounts : goal.returns-clause-accounts
returns-clause-accounts g c = λ before.
    let end = c.loop-opened.accounts.accounts.items in
    c.loop-opened.invariant.counted before end
    (subst (λ rest. AreCounted c.args.self.now.list.now c.args.self.now.component c.args.steps.now (map reached_of rest) end end)
    (sym (no_item c.args.sessions.now c.loop-opened.opened-index c.loop-opened-test.false)) refl)

pub returns-in_err-add_session-clause-fault : goal.returns-in_err-add_session-clause-fault
returns-in_err-add_session-clause-fault g c =
    passed_on _ _ c.from_residual.result c.from_residual.ensures.1
    (λ other before of_lines.
    no_room_at c.args.self.now.list.now c.args.self.now.component c.args.steps.now c.args.sessions.now c.loop-opened.opened-index c.opened-item.result c.loop-opened-test.true
    c.opened-item.is _
    (c.in_err-add_session.ensures.fault other (c.loop-opened.invariant.ready before)) of_lines
    (c.in_err-add_session.ensures.lacks other (c.loop-opened.invariant.ready before)))
