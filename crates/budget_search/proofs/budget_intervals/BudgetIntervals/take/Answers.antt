-- A run in no want adds its row.
use Rattle.std.proofs.Common.{◌≡◌, false, reverse, refl, sym, ap, subst, ◌∙◌}
use Rattle.std.specs.Prelude.{is_some}
use Rattle.budget_search.specs.declared.budget_intervals.BudgetInterval.{BudgetInterval}
use Rattle.budget_search.proofs.GapLemmas.{highest_before, highest_kept}
use Rattle.budget_search.proofs.OrderLemmas.{granted_order, refused_order}
use Rattle.budget_search.proofs.RowLemmas.{adds_run}
use Rattle.std.specs.Option.{option_copied}
use Rattle.budget_search.specs.BudgetIntervals.{likeness_of, AreOrdered, BeginFrom, IsAdded}
use Rattle.budget_search.specs.declared.budget_intervals.BudgetIntervals.{BudgetIntervals}
use Rattle.budget_search.proofs.budget_intervals.BudgetIntervals.take.Goals as goal
use Rattle.budget_search.proofs.budget_intervals.BudgetIntervals.take.Goals.{then-ram-top, else-ram-top}

pub returns-clause-rows : goal.returns-clause-rows
returns-clause-rows c = λ needs want caps is within all.
    let granted : is_some c.args.trial.refused ≡ false = sym c.is_some.ensures ∙ c.if-is_some.false in
    let row : BudgetInterval = record {
      ram_from = c.args.trial.meter.least.ram;
      ram_below = c.end_above.result;
      caps_from = c.args.trial.meter.least.caps;
      likeness = c.compare_replies.result;
    } in
    adds_run c.args.ram caps needs want c.args.trial is c.args.self.now.rows.items c.add.new.self.rows.items row c.args.top granted refl refl (c.end_above.ensures.within within)
    (c.end_above.ensures.ends within) c.in_ok-add.ensures.rows all

pub returns-clause-ordered : goal.returns-clause-ordered
returns-clause-ordered c = λ needs want caps is within.
    let row : BudgetInterval = record {
      ram_from = c.args.trial.meter.least.ram;
      ram_below = c.end_above.result;
      caps_from = c.args.trial.meter.least.caps;
      likeness = c.compare_replies.result;
    } in
    granted_order c.args.ram caps c.args.top needs want c.args.trial is within c.args.self.now.rows.items c.add.new.self.rows.items row refl refl
    (c.end_above.ensures.within within) (c.end_above.ensures.above within) (c.in_ok-add.ensures.ordered caps c.args.top)

pub returns-then-is_some-clause-ordered : goal.returns-then-is_some-clause-ordered
returns-then-is_some-clause-ordered c = λ needs want caps is within ordered above.
    let kept : c.if-ram-top.self.rows.items ≡ c.args.self.now.rows.items = elim c.if-ram-top.branch [
      | then-ram-top w ↦ ap (λ (s : BudgetIntervals). s.rows.items) w.self-is
      | else-ram-top w ↦ ap (λ (s : BudgetIntervals). s.rows.items) w.self-is
    ] in
    subst (λ rows. AreOrdered caps c.args.top (reverse rows) × BeginFrom c.args.trial.meter.choice (reverse rows)) (sym kept)
    (refused_order c.args.ram caps c.args.top needs want c.args.trial is within c.args.self.now.rows.items ordered above)

pub returns-clause-likeness : goal.returns-clause-likeness
returns-clause-likeness c = λ granted.
    subst (λ told. IsAdded told c.args.self.now.rows.items c.add.new.self.rows.items)
    (c.compare_replies.ensures ∙ ap (λ replies. likeness_of replies (option_copied c.args.given)) c.as_slice.ensures.value) c.in_ok-add.ensures.likeness

pub returns-then-is_some-clause-refused : goal.returns-then-is_some-clause-refused
returns-then-is_some-clause-refused c = λ told is highest. elim c.if-ram-top.branch [
  | then-ram-top w ↦ ap (λ (s : BudgetIntervals). s.refused) w.self-is ∙ is w.if-ram-top.true
  | else-ram-top w ↦ ap (λ (s : BudgetIntervals). s.refused) w.self-is ∙ highest_before c.args.ram c.args.top told c.args.self.now.refused w.if-ram-top.false highest
]

pub returns-clause-refused : goal.returns-clause-refused
returns-clause-refused c = λ told is highest.
    c.add.ensures.refused ∙ highest_kept c.args.ram c.args.top told c.args.self.now.refused c.args.trial.refused (sym c.is_some.ensures ∙ c.if-is_some.false) is highest
