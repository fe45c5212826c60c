-- The replies, where each line is understood; a line that isn't.
use Rattle.std.proofs.Common.{◌≡◌, ◌∙◌, Global, ℕ, List, ap, false, length, nat_eq, subst, sym, true}
use Rattle.std.proofs.lemmas.Result.{IfOk-at_ok}
use Rattle.std.specs.Prelude.{Vec}
use Rattle.line_rounds.specs.Views.{whole_view}
use Rattle.list_diff.specs.Replies.{AreCompared}
use Rattle.list_diff.specs.declared.reply_changes.ComparedLines.TheVariants.{Changed, Misread}
use Rattle.list_diff.specs.declared.reply_changes.ReplyChange.{ReplyChange}
use Rattle.cli_lists.specs.Comparison.{NeedsDiffer}
use Rattle.cli_lists.proofs.ChangeLemmas.{with_misread, with_replies}
use Rattle.cli_lists.proofs.diff.compare_results.Goals as goal

pub returns-then-is_empty-clause-ended : goal.returns-then-is_empty-clause-ended
returns-then-is_empty-clause-ended c =
    let runs = c.args.runs in
    let misread = IfOk-at_ok (λ (found : Vec ReplyChange Global). AreCompared Misread c.args.was.now c.args.now.now found.items)
    c.in_ok-misread.ensures.ok c.compared_lines-misread.ensures.aligned in
    let replies = IfOk-at_ok (λ (found : Vec ReplyChange Global). AreCompared Changed c.args.was.now c.args.now.now found.items)
    c.in_ok-replies.ensures.ok c.compared_lines-replies.ensures.aligned in
    with_replies c.args.settings runs.was.file.list.now (whole_view runs.was.lines.now) runs.now.file.list.now (whole_view runs.now.lines.now)
    runs.breaches.now c.args.was.now c.args.now.now c.in_ok-misread.misread.items c.as_slice.result.now c.in_ok-status.status misread
    (subst (λ (rs : List ReplyChange). AreCompared Changed c.args.was.now c.args.now.now rs) (sym c.as_slice.ensures.value) replies)
    (ap (λ (n : ℕ). nat_eq n 0) (sym c.in_ok-misread.misread.ok.0) ∙ sym c.is_empty.ensures ∙ c.if-is_empty.true) c.in_ok-status.ensures.ended

pub returns-clause-ended : goal.returns-clause-ended
returns-clause-ended c =
    let runs = c.args.runs in
    let misread = IfOk-at_ok (λ (found : Vec ReplyChange Global). AreCompared Misread c.args.was.now c.args.now.now found.items)
    c.in_ok-misread.ensures.ok c.compared_lines-misread.ensures.aligned in
    rw c.misread_status.ensures
    (with_misread c.args.settings runs.was.file.list.now (whole_view runs.was.lines.now) runs.now.file.list.now (whole_view runs.now.lines.now)
    runs.breaches.now
    (NeedsDiffer c.args.settings runs.was.file.list.now (whole_view runs.was.lines.now) runs.now.file.list.now (whole_view runs.now.lines.now)
    runs.breaches.now c.as_slice.result.now)
    c.args.was.now c.args.now.now c.in_ok-misread.misread.items c.in_ok-status.status misread
    (ap (λ (n : ℕ). nat_eq n 0) (sym c.in_ok-misread.misread.ok.0) ∙ sym c.is_empty.ensures ∙ c.if-is_empty.false) c.in_ok-status.ensures.ended)
