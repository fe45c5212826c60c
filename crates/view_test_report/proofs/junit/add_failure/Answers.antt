use Rattle.std.proofs.Common.{◌∙◌, ◌++◌, ap, codes}
use Rattle.view_test_report.specs.Junit.{first_line, junit_failure}
use Rattle.view_test_report.specs.Xml.{between}
use Rattle.view_test_report.proofs.TextLemmas.{two_added}
use Rattle.view_test_report.proofs.junit.add_failure.Goals as goal

pub returns : goal.returns
unfolding junit_failure
returns c =
    two_added _ c.args.text.now.items _ _ (between (codes "><failure message=\"") (first_line c.args.told.now) (codes "\">")) _
    (c.in_ok-add_between.ensures
    ∙ ap (λ line. c.args.text.now.items ++ between (codes "><failure message=\"") line (codes "\">")) c.first_line.ensures) c.add_between-2.ensures
