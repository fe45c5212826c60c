-- The run, and what it leaves to come.
use Rattle.std.proofs.Common.{arith, reverse, ap, ◌∙◌}
use Rattle.budget_search.specs.RunLines.{RunLines}
use Rattle.budget_search.proofs.OrderLemmas.{from_less}
use Rattle.budget_search.proofs.RowLemmas.{last_run, next_run}
use Rattle.budget_search.proofs.budget_intervals.BudgetIntervals.take_run.Goals as goal

pub returns-then-choice-eq0-clause-follows : goal.returns-then-choice-eq0-clause-follows
returns-then-choice-eq0-clause-follows g c = λ each want runs within rows.
    let is = c.in_ok-trial.ensures.run each want runs in
    last_run each want (g.T.BudgetTrials.caps c.args.trials.now) c.args.ram c.args.top c.args.self.now.rows.items c.take.new.self.rows.items c.in_ok-trial.trial is within
    (c.in_ok-take.ensures.rows _ _ _ is within rows) c.if-choice-eq0.true

pub returns-clause-follows : goal.returns-clause-follows
returns-clause-follows g c = λ each want runs within rows.
    let is = c.in_ok-trial.ensures.run each want runs in
    next_run each want (g.T.BudgetTrials.caps c.args.trials.now) c.args.ram c.args.top c.args.self.now.rows.items c.take.new.self.rows.items c.in_ok-trial.trial is within
    (c.in_ok-take.ensures.rows _ _ _ is within rows) c.if-choice-eq0.false

pub returns-then-choice-eq0-clause-ordered : goal.returns-then-choice-eq0-clause-ordered
returns-then-choice-eq0-clause-ordered g c = λ each want runs within ordered above.
    ((c.in_ok-take.ensures.ordered _ _ _ (c.in_ok-trial.ensures.run each want runs) within ordered above).0, tt)

pub returns-clause-ordered : goal.returns-clause-ordered
returns-clause-ordered g c = λ each want runs within ordered above.
    let made = c.in_ok-take.ensures.ordered _ _ _ (c.in_ok-trial.ensures.run each want runs) within ordered above in
    let some = c.if-choice-eq0.false in
    (made.0, from_less _ c.in_ok-trial.trial.meter.choice (reverse c.take.new.self.rows.items) (omega (arith, some)) made.1)

pub returns-then-choice-eq0-clause-refused : goal.returns-then-choice-eq0-clause-refused
returns-then-choice-eq0-clause-refused g c = λ lines are highest.
    c.in_ok-take.ensures.refused (lines (record { ram = c.args.top; caps = g.T.BudgetTrials.caps c.args.trials.now })).refused
    (λ same. ap (λ (found : RunLines). found.refused) (c.in_ok-trial.ensures.lines lines are ∙ ap (λ ram. lines (record { ram = ram; caps = g.T.BudgetTrials.caps c.args.trials.now })) same)) highest

pub returns-clause-refused : goal.returns-clause-refused
returns-clause-refused g c = λ lines are highest.
    c.in_ok-take.ensures.refused (lines (record { ram = c.args.top; caps = g.T.BudgetTrials.caps c.args.trials.now })).refused
    (λ same. ap (λ (found : RunLines). found.refused) (c.in_ok-trial.ensures.lines lines are ∙ ap (λ ram. lines (record { ram = ram; caps = g.T.BudgetTrials.caps c.args.trials.now })) same)) highest
