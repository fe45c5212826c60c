-- The lines stay the same, or are those of the next draft.
use Rattle.std.proofs.Common.{arith, ◌≡◌, List, [], ◌∷◌, length, map, refl}
use Rattle.std.proofs.lemmas.Bool.Decides.{nat_tests}
use Rattle.budget_least.proofs.DraftLemmas.{next_draft, none_left}
use Rattle.budget_least.specs.declared.changed_line.ChangedLine.{ChangedLine}
use Rattle.budget_search.proofs.FaultLemmas.{passed_on}
use Rattle.budget_least.proofs.report.BudgetReport.settles.Goals as goal

none_changed : (changed : List ChangedLine) → length changed ≡ 0 → map (λ (line : ChangedLine). line.number) changed ≡ []
none_changed [] none = refl
none_changed (line ∷ changed) none = absurd (omega (arith, none))

pub returns-then-is_empty-clause-settled : goal.returns-then-is_empty-clause-settled
returns-then-is_empty-clause-settled c = λ _.
    let changed = c.in_ok-changed.changed in
    let none : length changed.items ≡ 0 = grind (arith, nat_tests, c.is_empty.ensures, c.if-is_empty.true, changed.ok.0) in
    none_left c.args.question c.args.start.now c.args.self.now c.in_ok-lines.lines (map (λ (line : ChangedLine). line.number) changed.items) c.in_ok-lines.ensures.filled
    c.in_ok-changed.ensures (none_changed changed.items none)

pub returns-clause-next : goal.returns-clause-next
returns-clause-next c = λ _ number is.
    next_draft c.args.question c.args.start.now number c.args.self.now c.in_ok-report.report c.in_ok-lines.lines c.in_ok-lines.ensures.filled c.in_ok-report.ensures.draft is

pub returns-in_err-lines-clause-fault : goal.returns-in_err-lines-clause-fault
returns-in_err-lines-clause-fault c =
    passed_on _ _ c.from_residual.result c.from_residual.ensures.1 c.in_err-lines.ensures.fault

pub returns-in_err-report-clause-fault : goal.returns-in_err-report-clause-fault
returns-in_err-report-clause-fault c =
    passed_on _ _ c.from_residual-in_err-report.result c.from_residual-in_err-report.ensures.1 c.in_err-report.ensures.fault
