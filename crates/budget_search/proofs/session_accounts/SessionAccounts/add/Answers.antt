-- With one that is alike, or by itself.
use Rattle.std.proofs.Common.{sym, subst, ◌∙◌}
use Rattle.budget_search.specs.SessionAccounts.{HasLine}
use Rattle.budget_search.proofs.CountLemmas.{counted_with, lines_counted, lines_pushed}
use Rattle.budget_search.proofs.SessionLemmas.{each_on}
use Rattle.budget_search.proofs.session_accounts.SessionAccounts.add.Goals as goal

pub returns-in-Some-2-clause-lines : goal.returns-in-Some-2-clause-lines
returns-in-Some-2-clause-lines c = λ have.
    lines_counted c.args.self.now c.place_counted.new.self c.count.new.self c.args.account c.in_ok-place.field-0 c.place_counted.ensures.accounts
    c.in-Some-2.place c.count.ensures.accounts c.count.ensures.lines (c.in_ok-place.ensures.lines have)

pub returns-in-Some-2-clause-counted : goal.returns-in-Some-2-clause-counted
returns-in-Some-2-clause-counted c = λ some have.
    counted_with c.args.self.now c.place_counted.new.self c.count.new.self c.args.account c.in_ok-place.field-0 c.place_counted.ensures.accounts
    c.in-Some-2.place c.in-Some-2.is c.in_ok-place.ensures.there c.in_ok-place.ensures.alike c.count.ensures.accounts

pub returns-in-None-clause-lines : goal.returns-in-None-clause-lines
returns-in-None-clause-lines c =
    each_on c.push.result
    (λ pushed have.
    lines_pushed c.args.self.now c.place_counted.new.self c.push.new.self c.args.account c.in_ok-place.field-0 c.place_counted.ensures.accounts
    pushed c.push.ensures.lines
    (subst (HasLine c.place_counted.new.self.lines) (sym (sym c.session.ensures ∙ c.in-Some.is)) c.in_ok-place.ensures.line)
    (c.in_ok-place.ensures.lines have))
    c.push.ensures.accounts
