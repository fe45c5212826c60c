-- One run after another.
use Rattle.std.proofs.Common.{◌≡◌, ℕ, ◌-◌, suc, reverse, Bool, List, ◌||◌, refl, sym, ap, ◌∙◌, arith, subst, Option, None, Some}
use Rattle.std.specs.Prelude.{IfSome}
use Rattle.own_model.specs.Amounts.{Amounts}
use Rattle.budget_theorems.specs.Need.{Need}
use Rattle.budget_theorems.specs.Intervals.{is_covered, stretches}
use Rattle.budget_search.specs.BudgetIntervals.{serves, AreOrdered, AreRows, BeginFrom, Follows, HasHighest}
use Rattle.budget_search.specs.BudgetIntervals.HasHighest.{is_known, to_come}
use Rattle.budget_search.specs.RunLines.{RunLines}
use Rattle.budget_search.specs.declared.budget_intervals.BudgetInterval.{BudgetInterval}
use Rattle.budget_search.specs.declared.trial.RefusedLine.{RefusedLine}
use Rattle.budget_search.proofs.FaultLemmas.{passed_on}
use Rattle.budget_search.proofs.RowLemmas.{none_left}
use Rattle.budget_search.proofs.budget_intervals.BudgetIntervals.gather.Goals as goal

-- by the capabilities that all runs have, and by what was matched
followed : (each : Amounts → List Need) (want : Amounts → Bool) (here caps ram top : ℕ) (old new : List BudgetInterval) (next told : Option ℕ) → here ≡ caps → next ≡ told →
    Follows each want here ram top old new next → Follows each want caps ram top old new told
followed each want here caps ram top old new next told same is follows = subst (λ k. Follows each want k ram top old new told) same (subst (λ n. Follows each want here ram top old new n) is follows)

-- so of their order
order_kept : (here caps ram top : ℕ) (old new : List BudgetInterval) (next told : Option ℕ) → here ≡ caps → next ≡ told →
    (AreOrdered here top (reverse old) → BeginFrom (suc ram) (reverse old) → AreOrdered here top (reverse new) × IfSome next (λ n. BeginFrom (suc n) (reverse new))) →
    AreOrdered caps top (reverse old) → BeginFrom (suc ram) (reverse old) → AreOrdered caps top (reverse new) × IfSome told (λ n. BeginFrom (suc n) (reverse new))
order_kept here caps ram top old new next told same is made =
    subst (λ k. AreOrdered k top (reverse old) → BeginFrom (suc ram) (reverse old) → AreOrdered k top (reverse new) × IfSome told (λ n. BeginFrom (suc n) (reverse new))) same
    (subst (λ o. AreOrdered here top (reverse old) → BeginFrom (suc ram) (reverse old) → AreOrdered here top (reverse new) × IfSome o (λ n. BeginFrom (suc n) (reverse new))) is made)

-- and of the line with the highest RAM
known_by : (top here caps : ℕ) (lines : Amounts → RunLines) (old new : Option RefusedLine) {ram : ℕ} → here ≡ caps →
    (HasHighest ram top (lines (record { ram = top; caps = here })).refused old → new ≡ (lines (record { ram = top; caps = here })).refused) →
    HasHighest ram top (lines (record { ram = top; caps = caps })).refused old → new ≡ (lines (record { ram = top; caps = caps })).refused
known_by top here caps lines old new {ram} same made =
    subst (λ k. HasHighest ram top (lines (record { ram = top; caps = k })).refused old → new ≡ (lines (record { ram = top; caps = k })).refused) same made

pub loop-made-init : goal.loop-made-init
loop-made-init g c = record {
  caps = refl;
  rest = refl;
  runs = λ each want runs. runs;
  same = λ ram fault fails. fails;
  within = λ each want runs. omega arith;
  rows = λ each want runs. subst AreRows (sym c.requires.none) tt;
  ordered = λ each want runs.
      subst (λ rows. AreOrdered (g.T.BudgetTrials.caps c.args.trials.now) c.args.top (reverse rows)) (sym c.requires.none) (record { apart = tt; begin = tt; within = tt });
  above = λ each want runs. subst (λ rows. BeginFrom (suc c.args.top) (reverse rows)) (sym c.requires.none) tt;
  all = λ each want runs budget up left same.
      let caps = g.T.BudgetTrials.caps c.args.trials.now in
      let exact : left ≡ suc c.args.top = omega (arith, same) in
      ap (λ rows. serves rows budget || is_covered (stretches each want caps left c.args.top) budget) c.requires.none
      ∙ ap (λ n. is_covered (stretches each want caps n c.args.top) budget) exact;
  lines = λ lines are. are;
  highest = λ lines are. to_come refl c.requires.first;
  holes = refl;
  left_out = refl;
}

pub returns-in-None-clause-exact : goal.returns-in-None-clause-exact
returns-in-None-clause-exact g c = λ each want runs budget up.
    let inv = c.loop-made.invariant in
    let left : ℕ = c.args.top - c.loop-made.made in
    let test = c.loop-made-test.true in
    let follows = followed each want (g.T.BudgetTrials.caps c.loop-made.trials) (g.T.BudgetTrials.caps c.args.trials.now) c.loop-made.ram c.args.top c.loop-made.self.rows.items
    c.take_run.new.self.rows.items c.in_ok-next.field-0 None inv.caps c.in-None.is
    (c.in_ok-next.ensures.follows each want (inv.runs each want runs) (inv.within each want runs) (inv.rows each want runs)) in
    follows.covers budget up left ∙ inv.all each want runs budget up (suc left) (omega (arith, test))

pub returns-in-None-clause-ordered : goal.returns-in-None-clause-ordered
returns-in-None-clause-ordered g c = λ each want runs.
    let inv = c.loop-made.invariant in
    (order_kept (g.T.BudgetTrials.caps c.loop-made.trials) (g.T.BudgetTrials.caps c.args.trials.now) c.loop-made.ram c.args.top c.loop-made.self.rows.items
    c.take_run.new.self.rows.items c.in_ok-next.field-0 None inv.caps c.in-None.is
    (c.in_ok-next.ensures.ordered each want (inv.runs each want runs) (inv.within each want runs)) (inv.ordered each want runs) (inv.above each want runs)).0

pub loop-made-preserved : goal.loop-made-preserved
loop-made-preserved g c =
    let inv = c.loop-made.invariant in
    let follows = λ (each : Amounts → List Need) (want : Amounts → Bool) (runs : g.T.BudgetTrials.AreRuns c.args.trials.now each want).
    followed each want (g.T.BudgetTrials.caps c.loop-made.trials) (g.T.BudgetTrials.caps c.args.trials.now) c.loop-made.ram c.args.top c.loop-made.self.rows.items
    c.take_run.new.self.rows.items c.in_ok-next.field-0 (Some c.in-Some.next) inv.caps c.in-Some.is
    (c.in_ok-next.ensures.follows each want (inv.runs each want runs) (inv.within each want runs) (inv.rows each want runs)) in
    let order = λ (each : Amounts → List Need) (want : Amounts → Bool) (runs : g.T.BudgetTrials.AreRuns c.args.trials.now each want).
    order_kept (g.T.BudgetTrials.caps c.loop-made.trials) (g.T.BudgetTrials.caps c.args.trials.now) c.loop-made.ram c.args.top c.loop-made.self.rows.items
    c.take_run.new.self.rows.items c.in_ok-next.field-0 (Some c.in-Some.next) inv.caps c.in-Some.is
    (c.in_ok-next.ensures.ordered each want (inv.runs each want runs) (inv.within each want runs)) (inv.ordered each want runs) (inv.above each want runs) in
    record {
      ordered = λ each want runs. (order each want runs).0;
      above = λ each want runs. (order each want runs).1;
      caps = c.in_ok-next.ensures.caps ∙ inv.caps;
      rest = c.in_ok-next.ensures.rest ∙ inv.rest;
      runs = λ each want runs. c.in_ok-next.ensures.still each want (inv.runs each want runs);
      same = λ ram fault fails. inv.same ram fault (c.in_ok-next.ensures.same ram fault fails);
      within = λ each want runs. (follows each want runs).within;
      rows = λ each want runs. (follows each want runs).rows;
      all = λ each want runs budget up left same.
          (follows each want runs).covers budget up left ∙ inv.all each want runs budget up (suc left) (omega (arith, same));
      lines = λ lines are. c.in_ok-next.ensures.lines_still lines (inv.lines lines are);
      highest = λ lines are. is_known (known_by c.args.top _ _ lines _ _ inv.caps (c.in_ok-next.ensures.refused lines (inv.lines lines are)) (inv.highest lines are));
      holes = c.take_run.ensures.holes ∙ inv.holes;
      left_out = c.take_run.ensures.left_out ∙ inv.left_out;
    }

pub returns-clause-exact : goal.returns-clause-exact
returns-clause-exact g c = λ each want runs budget up.
    let inv = c.loop-made.invariant in
    let past = c.loop-made-test.false in
    let end = c.loop-made.auto.made-end in
    let follows = followed each want (g.T.BudgetTrials.caps c.loop-made.trials) (g.T.BudgetTrials.caps c.args.trials.now) c.loop-made.ram c.args.top c.loop-made.self.rows.items
    c.take_run-2.new.self.rows.items c.in_ok-_next._next c.in_ok-_next._next inv.caps refl
    (c.in_ok-_next.ensures.follows each want (inv.runs each want runs) (inv.within each want runs) (inv.rows each want runs)) in
    sym (none_left each want (g.T.BudgetTrials.caps c.args.trials.now) c.take_run-2.new.self.rows.items c.in_ok-_next._next budget)
    ∙ follows.covers budget up 0 ∙ inv.all each want runs budget up 1 (omega (arith, past, end))

pub returns-clause-ordered : goal.returns-clause-ordered
returns-clause-ordered g c = λ each want runs.
    let inv = c.loop-made.invariant in
    (order_kept (g.T.BudgetTrials.caps c.loop-made.trials) (g.T.BudgetTrials.caps c.args.trials.now) c.loop-made.ram c.args.top c.loop-made.self.rows.items
    c.take_run-2.new.self.rows.items c.in_ok-_next._next c.in_ok-_next._next inv.caps refl
    (c.in_ok-_next.ensures.ordered each want (inv.runs each want runs) (inv.within each want runs)) (inv.ordered each want runs) (inv.above each want runs)).0

pub returns-in-None-clause-still : goal.returns-in-None-clause-still
returns-in-None-clause-still g c = λ each want runs. c.in_ok-next.ensures.still each want (c.loop-made.invariant.runs each want runs)

pub returns-clause-still : goal.returns-clause-still
returns-clause-still g c = λ each want runs. c.in_ok-_next.ensures.still each want (c.loop-made.invariant.runs each want runs)

pub returns-in_err-next-clause-same : goal.returns-in_err-next-clause-same
returns-in_err-next-clause-same g c = λ ram fault fails. c.loop-made.invariant.same ram fault (c.in_err-next.ensures.same ram fault fails)

pub returns-in_err-next-clause-fault : goal.returns-in_err-next-clause-fault
returns-in_err-next-clause-fault g c =
    let inv = c.loop-made.invariant in
    passed_on _ _ c.from_residual.result c.from_residual.ensures.1
    (λ other each want runs. record {
      ram = c.loop-made.ram;
      within = inv.within each want runs;
      its = inv.same c.loop-made.ram _ (c.in_err-next.ensures.fault other each want (inv.runs each want runs));
    })

pub returns-in-None-clause-same : goal.returns-in-None-clause-same
returns-in-None-clause-same g c = λ ram fault fails. c.loop-made.invariant.same ram fault (c.in_ok-next.ensures.same ram fault fails)

pub returns-in_err-_next-clause-same : goal.returns-in_err-_next-clause-same
returns-in_err-_next-clause-same g c = λ ram fault fails. c.loop-made.invariant.same ram fault (c.in_err-_next.ensures.same ram fault fails)

pub returns-in_err-_next-clause-fault : goal.returns-in_err-_next-clause-fault
returns-in_err-_next-clause-fault g c =
    let inv = c.loop-made.invariant in
    passed_on _ _ c.from_residual-in_err-_next.result c.from_residual-in_err-_next.ensures.1
    (λ other each want runs. record {
      ram = c.loop-made.ram;
      within = inv.within each want runs;
      its = inv.same c.loop-made.ram _ (c.in_err-_next.ensures.fault other each want (inv.runs each want runs));
    })

pub returns-clause-same : goal.returns-clause-same
returns-clause-same g c = λ ram fault fails. c.loop-made.invariant.same ram fault (c.in_ok-_next.ensures.same ram fault fails)

pub returns-in-None-clause-refused : goal.returns-in-None-clause-refused
returns-in-None-clause-refused g c = λ lines are.
    let inv = c.loop-made.invariant in
    known_by c.args.top _ _ lines _ _ inv.caps (c.in_ok-next.ensures.refused lines (inv.lines lines are)) (inv.highest lines are)

pub returns-clause-refused : goal.returns-clause-refused
returns-clause-refused g c = λ lines are.
    let inv = c.loop-made.invariant in
    known_by c.args.top _ _ lines _ _ inv.caps (c.in_ok-_next.ensures.refused lines (inv.lines lines are)) (inv.highest lines are)

pub returns-in-None-clause-lines_still : goal.returns-in-None-clause-lines_still
returns-in-None-clause-lines_still g c = λ lines are. c.in_ok-next.ensures.lines_still lines (c.loop-made.invariant.lines lines are)

pub returns-clause-lines_still : goal.returns-clause-lines_still
returns-clause-lines_still g c = λ lines are. c.in_ok-_next.ensures.lines_still lines (c.loop-made.invariant.lines lines are)
