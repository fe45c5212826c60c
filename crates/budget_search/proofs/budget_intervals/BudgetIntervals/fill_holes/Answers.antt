-- A run below an interval.
use Rattle.std.proofs.Common.{arith, ℕ, ◌+◌, ◌-◌, ◌≤◌, ◌++◌, None, drop, get_or, sym, ap, subst, ◌∙◌}
use Rattle.std.proofs.lemmas.List.{append-nil, drop_all}
use Rattle.std.specs.List.{AllByRecursion}
use Rattle.budget_search.proofs.FaultLemmas.{passed_on, row_below}
use Rattle.budget_search.proofs.GapLemmas.{close_row, first_row, gap_row}
use Rattle.own_model.specs.Amounts.{Amounts}
use Rattle.budget_search.specs.BudgetIntervals.{gaps_after}
use Rattle.budget_search.specs.RunLines.{RunLines}
use Rattle.budget_search.specs.declared.budget_intervals.BudgetInterval.{BudgetInterval}
use Rattle.budget_search.specs.declared.budget_intervals.Likeness.TheVariants.{Same}
use Rattle.budget_search.proofs.budget_intervals.BudgetIntervals.fill_holes.Goals as goal
use Rattle.budget_search.proofs.budget_intervals.BudgetIntervals.fill_holes.Goals.{in-Some+then-ram_from-row+in_ok-trial+in_ok-push, in-Some+else-ram_from-row, in_default}

less : (n top : ℕ) → n ≤ top → n - 1 ≤ top
less n top within = omega (arith, within)

pub returns-in_err-trial-clause-fault : goal.returns-in_err-trial-clause-fault
returns-in_err-trial-clause-fault g c =
    passed_on _ _ c.from_residual.result c.from_residual.ensures.1
    (λ other top all each want runs. record {
      ram = _;
      within =
          less _ top
          (row_below c.as_slice-row-items.result.now top c.loop-row.row-index _
          (subst (λ rows. AllByRecursion (λ row. row.ram_from ≤ top) rows) (sym c.as_slice-row-items.ensures.value) all) c.loop-row-test.true);
      its = c.loop-row.invariant.same _ _ (c.in_err-trial.ensures.fault other each want (c.loop-row.invariant.runs each want runs));
    })

-- what an index past the end would read
abbrev nothing : BudgetInterval
nothing = record { ram_from = 0; ram_below = None; caps_from = 0; likeness = Same }

pub loop-row-preserved : goal.loop-row-preserved
loop-row-preserved g c =
    let inv = c.loop-row.invariant in
    let caps = g.T.BudgetTrials.caps c.args.trials.now in
    let rows = c.as_slice-row-items.result.now in
    let holes = c.loop-row.self.1.1.0.items in
    let within = c.loop-row-test.true in
    let i = c.loop-row.row-index in
    let rest = λ (lines : Amounts → RunLines). gaps_after lines caps (get_or rows i nothing).ram_below (drop (i + 1) rows) in
    elim c.match-end.branch [
      | in-Some+then-ram_from-row+in_ok-trial+in_ok-push w ↦ record {
        rest = ap g.T.BudgetTrials.rest w.trials-is ∙ w.run.ensures.rest ∙ inv.rest;
        runs = λ each want runs. subst (λ t. g.T.BudgetTrials.AreRuns t each want) (sym w.trials-is) (w.in_ok-trial.ensures.still each want (inv.runs each want runs));
        same = λ ram fault fails. inv.same ram fault (w.run.ensures.same ram fault (subst (λ t. g.T.BudgetTrials.fails t ram fault) w.trials-is fails));
        caps = ap g.T.BudgetTrials.caps w.trials-is ∙ w.run.ensures.caps ∙ inv.caps;
        lines = λ lines are. subst (λ t. g.T.BudgetTrials.AreLines t lines) (sym w.trials-is) (w.in_ok-trial.ensures.lines_still lines (inv.lines lines are));
        gaps = λ lines are.
            gap_row lines caps rows i nothing within holes _ c.loop-row.end (inv.gaps lines are) w.in-Some.ram_from w.in_ok-trial.trial.refused _ w.in-Some.is w.if-ram_from-row.true
            (ap (λ (found : RunLines). found.refused)
            (w.in_ok-trial.ensures.lines lines (inv.lines lines are) ∙ ap (λ n. lines (record { ram = (get_or rows i nothing).ram_from - 1; caps = n })) inv.caps))
            (ap (λ (s : _). s.1.1.0.items) w.self-is ∙ w.in_ok-push.ensures.items);
      }
      | in-Some+else-ram_from-row w ↦ record {
        rest = ap g.T.BudgetTrials.rest w.trials-is ∙ inv.rest;
        runs = λ each want runs. subst (λ t. g.T.BudgetTrials.AreRuns t each want) (sym w.trials-is) (inv.runs each want runs);
        same = λ ram fault fails. inv.same ram fault (subst (λ t. g.T.BudgetTrials.fails t ram fault) w.trials-is fails);
        caps = ap g.T.BudgetTrials.caps w.trials-is ∙ inv.caps;
        lines = λ lines are. subst (λ t. g.T.BudgetTrials.AreLines t lines) (sym w.trials-is) (inv.lines lines are);
        gaps = λ lines are.
            ap (λ s. s.1.1.0.items ++ rest lines) w.self-is
            ∙ close_row lines caps rows i nothing within holes _ c.loop-row.end (inv.gaps lines are) w.in-Some.ram_from w.in-Some.is w.if-ram_from-row.false;
      }
      | in_default w ↦ record {
        rest = ap g.T.BudgetTrials.rest w.trials-is ∙ inv.rest;
        runs = λ each want runs. subst (λ t. g.T.BudgetTrials.AreRuns t each want) (sym w.trials-is) (inv.runs each want runs);
        same = λ ram fault fails. inv.same ram fault (subst (λ t. g.T.BudgetTrials.fails t ram fault) w.trials-is fails);
        caps = ap g.T.BudgetTrials.caps w.trials-is ∙ inv.caps;
        lines = λ lines are. subst (λ t. g.T.BudgetTrials.AreLines t lines) (sym w.trials-is) (inv.lines lines are);
        gaps = λ lines are.
            ap (λ s. s.1.1.0.items ++ rest lines) w.self-is
            ∙ first_row lines caps rows i nothing within holes _ c.loop-row.end (inv.gaps lines are) w.in_default.is;
      }
    ]

pub returns-clause-gaps : goal.returns-clause-gaps
returns-clause-gaps g c = λ lines are.
    let caps = g.T.BudgetTrials.caps c.args.trials.now in
    let rows = c.as_slice-row-items.result.now in
    sym (append-nil c.loop-row.self.1.1.0.items)
    ∙ ap (λ l. c.loop-row.self.1.1.0.items ++ gaps_after lines caps c.loop-row.end l) (sym (drop_all c.loop-row.row-index rows c.loop-row-test.false))
    ∙ c.loop-row.invariant.gaps lines are
    ∙ ap (gaps_after lines caps None) c.as_slice-row-items.ensures.value
