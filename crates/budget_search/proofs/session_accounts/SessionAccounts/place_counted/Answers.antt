-- A line that opened no session before, and one that did.
use Rattle.std.proofs.Common.{sym, ◌∙◌}
use Rattle.budget_search.proofs.CountLemmas.{all_still, none_alike, now_has, when_none}
use Rattle.budget_search.proofs.session_accounts.SessionAccounts.place_counted.Goals as goal

pub returns-then-not-was-clause-lines : goal.returns-then-not-was-clause-lines
returns-then-not-was-clause-lines c = λ have.
    all_still c.args.self.now.lines c.add.new.self c.args.session.line c.in_ok-was.ensures.added c.args.self.now.accounts.items have

pub returns-then-not-was-clause-line : goal.returns-then-not-was-clause-line
returns-then-not-was-clause-line c = now_has c.args.self.now.lines c.add.new.self c.args.session.line c.in_ok-was.ensures.added

pub returns-then-not-was-clause-none : goal.returns-then-not-was-clause-none
returns-then-not-was-clause-none c = λ is have.
    none_alike c.args.self.now.lines c.args.account.now c.args.session is (sym c.in_ok-was.ensures.was ∙ c.if-not-was.true) c.args.self.now.accounts.items have

pub returns-clause-lines : goal.returns-clause-lines
returns-clause-lines c = λ have.
    all_still c.args.self.now.lines c.add.new.self c.args.session.line c.in_ok-was.ensures.added c.args.self.now.accounts.items have

pub returns-clause-line : goal.returns-clause-line
returns-clause-line c = now_has c.args.self.now.lines c.add.new.self c.args.session.line c.in_ok-was.ensures.added

pub returns-clause-none : goal.returns-clause-none
returns-clause-none c = when_none c.place_alike.result (λ none is have. none) c.place_alike.ensures.none
