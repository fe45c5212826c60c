-- A row more, by itself or in one with the last.
use Rattle.std.proofs.Common.{◌≡◌, ◌∷◌, [], ◌++◌, refl, sym, ap, ◌∙◌}
use Rattle.std.proofs.lemmas.List.{append-nil}
use Rattle.budget_search.specs.BudgetIntervals.IsAdded.{by_itself, in_one}
use Rattle.budget_search.specs.declared.budget_intervals.BudgetIntervals.{BudgetIntervals}
use Rattle.budget_search.proofs.RowLemmas.{adds_joined}
use Rattle.budget_search.proofs.OrderLemmas.{row_joined, row_last}
use Rattle.budget_search.proofs.budget_intervals.BudgetIntervals.add.Goals as goal
use Rattle.budget_search.proofs.budget_intervals.BudgetIntervals.add.Goals.{in-Some+in_default-joined+in_ok-push-2, in_default}

pub returns-in-Some-joined-clause-rows : goal.returns-in-Some-joined-clause-rows
returns-in-Some-joined-clause-rows c =
    adds_joined c.args.self.now.rows.items c.pop.new.self.items c.push.new.self.items c.in-Some.above c.args.row c.in-Some-joined.both c.in-Some.ensures.items
    c.in_ok-push.ensures.items c.in-Some-joined.ensures.covers

pub returns-in-Some-joined-clause-ordered : goal.returns-in-Some-joined-clause-ordered
returns-in-Some-joined-clause-ordered c = λ caps top.
    row_joined caps top c.args.self.now.rows.items c.pop.new.self.items c.push.new.self.items c.in-Some.above c.args.row c.in-Some-joined.both c.in-Some.ensures.items
    c.in_ok-push.ensures.items (λ one other. (c.in-Some-joined.ensures.covers one other).0) c.in-Some-joined.ensures.from c.in-Some-joined.ensures.needs c.in-Some-joined.ensures.ends

pub returns-in-Some-joined-clause-likeness : goal.returns-in-Some-joined-clause-likeness
returns-in-Some-joined-clause-likeness c =
    in_one c.args.row c.in-Some.above c.pop.new.self.items refl c.in-Some.ensures.items
    (c.in_ok-push.ensures.items ∙ ap (λ both. c.pop.new.self.items ++ both ∷ []) c.in-Some-joined.ensures.joined)

-- the last, if there is one, is there again
pub returns-clause-ordered : goal.returns-clause-ordered
returns-clause-ordered c = λ caps top.
    let kept : c.match-pop.self.rows.items ≡ c.args.self.now.rows.items = elim c.match-pop.branch [
      | in-Some+in_default-joined+in_ok-push-2 w ↦
          ap (λ (s : BudgetIntervals). s.rows.items) w.self-is ∙ w.in_ok-push-2.ensures.items ∙ sym w.in-Some.ensures.items
      | in_default w ↦ ap (λ (s : BudgetIntervals). s.rows.items) w.self-is ∙ sym (append-nil c.pop.new.self.items) ∙ sym w.in_default.ensures.items
    ] in
    row_last caps top c.args.self.now.rows.items c.push-2.new.self.items c.args.row (c.in_ok-push-3.ensures.items ∙ ap (λ rows. rows ++ c.args.row ∷ []) kept)

pub returns-clause-likeness : goal.returns-clause-likeness
returns-clause-likeness c =
    let kept : c.match-pop.self.rows.items ≡ c.args.self.now.rows.items = elim c.match-pop.branch [
      | in-Some+in_default-joined+in_ok-push-2 w ↦
          ap (λ (s : BudgetIntervals). s.rows.items) w.self-is ∙ w.in_ok-push-2.ensures.items ∙ sym w.in-Some.ensures.items
      | in_default w ↦ ap (λ (s : BudgetIntervals). s.rows.items) w.self-is ∙ sym (append-nil c.pop.new.self.items) ∙ sym w.in_default.ensures.items
    ] in
    by_itself c.args.row refl (c.in_ok-push-3.ensures.items ∙ ap (λ rows. rows ++ c.args.row ∷ []) kept)
