-- The numbers, and then the time.
use Rattle.std.proofs.Common.{rules, ◌∙◌, ◌++◌, append_assoc, ap, codes}
use Rattle.view_test_report.specs.Junit.{counted, junit_front, timed}
use Rattle.view_test_report.proofs.TextLemmas.{two_added}
use Rattle.view_test_report.proofs.junit.add_front.Goals as goal

pub returns : goal.returns
unfolding junit_front
returns c =
    let counts = counted c.args.all c.args.failed in
    let time = timed c.args.total in
    two_added _ c.args.text.now.items _ _ (counts ++ time) (codes ">\n")
    (c.in_ok-add_time.ensures ∙ ap (λ text. text ++ time) c.in_ok-add_counts.ensures ∙ append_assoc c.args.text.now.items counts time) (search rules)
