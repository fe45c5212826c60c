-- The seconds, and then their thousandths.
use Rattle.view_test_report.specs.Junit.{timed}
use Rattle.view_test_report.proofs.TextLemmas.{two_added}
use Rattle.view_test_report.proofs.junit.add_time.Goals as goal

pub returns : goal.returns
unfolding timed
returns c = two_added _ c.args.text.now.items _ _ _ _ c.in_ok-add_number.ensures c.add_thousandths.ensures
