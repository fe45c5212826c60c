-- The text says whether the lists differ.
use Rattle.std.proofs.lemmas.Result.{IfOk-at_ok}
use Rattle.cli_lists.specs.Comparison.{Compared, Differ, changed_if}
use Rattle.cli_lists.specs.declared.diff_text.DiffText.{DiffText}
use Rattle.cli_lists.proofs.ComparisonLemmas.{ends_text}
use Rattle.cli_lists.proofs.diff_text.print_differences.Goals as goal

pub returns-in-Ok : goal.returns-in-Ok
returns-in-Ok c =
    let pair = c.args.pair in
    let differ = λ (changed : Compared). Differ pair.lists.before.list.now pair.lists.after.list.now pair.breaches.now c.args.lacks.now c.args.replies.now changed in
    ends_text differ c.in-Ok.text.is_changed c.print.result
    (IfOk-at_ok (λ (text : DiffText). differ (changed_if text.is_changed)) c.in-Ok.ensures.ok c.differences.ensures)
    c.print.ensures
