-- The status is that of the write, or it says whether something is changed.
use Rattle.cli_lists.proofs.ComparisonLemmas.{written}
use Rattle.cli_lists.proofs.diff_text.DiffText.print.Goals as goal

pub returns : goal.returns
returns c = written c.write_all-printed.result c.args.self.now.is_changed c.end_status.result c.end_status.ensures
