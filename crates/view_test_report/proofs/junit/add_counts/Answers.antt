-- Two numbers, each after its text.
use Rattle.view_test_report.specs.Junit.{counted}
use Rattle.view_test_report.proofs.TextLemmas.{two_added}
use Rattle.view_test_report.proofs.junit.add_counts.Goals as goal

pub returns : goal.returns
unfolding counted
returns c = two_added _ c.args.text.now.items _ _ _ _ c.in_ok-add_number.ensures c.add_number-2.ensures
