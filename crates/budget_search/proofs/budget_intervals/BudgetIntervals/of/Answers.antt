-- The other way round the rows cover the same.
use Rattle.std.specs.List.{AllByRecursion}
use Rattle.std.proofs.Common.{◌≡◌, ℕ, ◌≤◌, ◌++◌, List, None, drop, length, reverse, take, sym, ap, subst, ◌∙◌}
use Rattle.std.proofs.lemmas.List.Sorted.{list_any-IsPermutation}
use Rattle.budget_search.specs.BudgetIntervals.{covers, gaps_after, left_out_at, lowest_of, serves, AreOrdered}
use Rattle.budget_search.specs.declared.budget_intervals.BudgetInterval.{BudgetInterval}
use Rattle.budget_search.proofs.FaultLemmas.{passed_on, rows_below}
use Rattle.budget_search.proofs.RowLemmas.{front}
use Rattle.budget_search.proofs.budget_intervals.BudgetIntervals.of.Goals as goal

-- intervals in their order, before others
turned : (n : ℕ) (old new others : List BudgetInterval) → length new ≡ n → new ≡ reverse old → take n (new ++ others) ≡ reverse old
turned n old new others same is = front n new others same ∙ is

-- all begin within the RAM
all_below : (caps top : ℕ) (old rows : List BudgetInterval) → rows ≡ reverse old → AreOrdered caps top (reverse old) → AllByRecursion (λ row. row.ram_from ≤ top) rows
all_below caps top old rows is ordered = subst (λ rows. AllByRecursion (λ row. row.ram_from ≤ top) rows) (sym is) (rows_below caps top (reverse old) ordered.within)

pub returns-clause-exact : goal.returns-clause-exact
returns-clause-exact g c = λ each want runs budget up.
    ap (λ rows. serves rows.items budget) (c.leave_out.ensures.rows ∙ c.fill_holes.ensures.rows)
    ∙ ap (λ rows. serves rows budget)
    (front c.gather.new.self.rows.len c.reverse.new.self (drop (length c.reverse.new.self) c.gather.new.self.rows.items)
    (c.reverse.ensures.len ∙ c.as_mut_slice.ensures.len))
    ∙ sym (list_any-IsPermutation (λ row. covers row budget) _ _ c.reverse.ensures.permutation)
    ∙ ap (λ rows. serves rows budget) c.as_mut_slice.ensures.value
    ∙ c.in_ok-gather.ensures.exact each want runs budget up

pub returns-clause-ordered : goal.returns-clause-ordered
returns-clause-ordered g c = λ each want runs.
    subst (AreOrdered (g.T.BudgetTrials.caps c.args.trials.now) c.args.top)
    (sym (ap (λ rows. rows.items) (c.leave_out.ensures.rows ∙ c.fill_holes.ensures.rows)
    ∙ turned c.gather.new.self.rows.len c.gather.new.self.rows.items c.reverse.new.self (drop (length c.reverse.new.self) c.gather.new.self.rows.items)
    (c.reverse.ensures.len ∙ c.as_mut_slice.ensures.len) (c.reverse.ensures.after ∙ ap reverse c.as_mut_slice.ensures.value)))
    (c.in_ok-gather.ensures.ordered each want runs)

pub returns-clause-still : goal.returns-clause-still
returns-clause-still g c = λ each want runs.
    c.in_ok-leave_out.ensures.still each want (c.in_ok-fill_holes.ensures.still each want (c.in_ok-gather.ensures.still each want runs))

pub returns-in_err-fill_holes-clause-fault : goal.returns-in_err-fill_holes-clause-fault
returns-in_err-fill_holes-clause-fault g c =
    passed_on _ _ c.from_residual-in_err-fill_holes.result c.from_residual-in_err-fill_holes.ensures.1
    (λ other each want runs.
    let fails =
    c.in_err-fill_holes.ensures.fault other c.args.top
    (all_below (g.T.BudgetTrials.caps c.args.trials.now) c.args.top c.gather.new.self.rows.items _
    (turned c.gather.new.self.rows.len c.gather.new.self.rows.items c.reverse.new.self (drop (length c.reverse.new.self) c.gather.new.self.rows.items)
    (c.reverse.ensures.len ∙ c.as_mut_slice.ensures.len) (c.reverse.ensures.after ∙ ap reverse c.as_mut_slice.ensures.value))
    (c.in_ok-gather.ensures.ordered each want runs))
    each want (c.in_ok-gather.ensures.still each want runs) in
    record { ram = fails.ram; within = fails.within; its = c.in_ok-gather.ensures.same fails.ram _ fails.its })

pub returns-in_err-leave_out-clause-fault : goal.returns-in_err-leave_out-clause-fault
returns-in_err-leave_out-clause-fault g c =
    passed_on _ _ c.from_residual-in_err-leave_out.result c.from_residual-in_err-leave_out.ensures.1
    (λ other each want runs.
    let fails =
    c.in_err-leave_out.ensures.fault other c.args.top
    (all_below (g.T.BudgetTrials.caps c.args.trials.now) c.args.top c.gather.new.self.rows.items _
    (ap (λ rows. rows.items) c.fill_holes.ensures.rows
    ∙ turned c.gather.new.self.rows.len c.gather.new.self.rows.items c.reverse.new.self (drop (length c.reverse.new.self) c.gather.new.self.rows.items)
    (c.reverse.ensures.len ∙ c.as_mut_slice.ensures.len) (c.reverse.ensures.after ∙ ap reverse c.as_mut_slice.ensures.value))
    (c.in_ok-gather.ensures.ordered each want runs))
    each want (c.in_ok-fill_holes.ensures.still each want (c.in_ok-gather.ensures.still each want runs)) in
    record {
      ram = fails.ram;
      within = fails.within;
      its = c.in_ok-gather.ensures.same fails.ram _ (c.in_ok-fill_holes.ensures.same fails.ram _ fails.its);
    })

pub returns-clause-lines_still : goal.returns-clause-lines_still
returns-clause-lines_still g c = λ lines are.
    c.in_ok-leave_out.ensures.lines_still lines (c.in_ok-fill_holes.ensures.lines_still lines (c.in_ok-gather.ensures.lines_still lines are))

pub returns-clause-lines : goal.returns-clause-lines
returns-clause-lines g c = λ lines are.
    let gathered = c.in_ok-gather.ensures.lines_still lines are in
    record {
      highest = c.leave_out.ensures.refused ∙ c.fill_holes.ensures.refused ∙ c.in_ok-gather.ensures.refused lines are;
      gaps =
          ap (λ holes. holes.items) c.leave_out.ensures.holes ∙ c.in_ok-fill_holes.ensures.gaps lines gathered
          ∙ (λ i. gaps_after lines (c.gather.ensures.caps i) None (sym (c.leave_out.ensures.rows ∙ c.fill_holes.ensures.rows) i).items);
      left_out =
          c.in_ok-leave_out.ensures.left_out lines (c.in_ok-fill_holes.ensures.lines_still lines gathered)
          ∙ (λ i. left_out_at lines ((c.fill_holes.ensures.caps ∙ c.gather.ensures.caps) i) (lowest_of (sym c.leave_out.ensures.rows i).items));
    }
