-- A filter of some texts selects by them.
use Rattle.std.proofs.Common.{◌∙◌, ap, ℕ, List}
use Rattle.std.specs.Borrow.{Bor}
use Rattle.std.specs.List.{list_any}
use Rattle.cli_tests.specs.Plan.{has_text}
use Rattle.cli_tests.proofs.PlanLemmas.{selected_by}
use Rattle.cli_tests.proofs.planned_test.is_selected.Goals as goal

pub returns-else-is_empty : goal.returns-else-is_empty
returns-else-is_empty c =
    selected_by c.args.texts.now c.args.test.now c.is_empty.result c.any_text.result c.is_empty.ensures c.if-is_empty.false
    (c.any_text.ensures ∙ ap (λ path. list_any (λ (text : Bor (List ℕ)). has_text path text.now) c.args.texts.now) c.path-path.ensures)
