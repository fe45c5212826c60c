use Rattle.view_test_report.proofs.XmlLemmas.{all_stay_inside}
use Rattle.view_test_report.proofs.theorems.texts_stay_inside.Goals as goal

pub returns : goal.returns
returns c = all_stay_inside
