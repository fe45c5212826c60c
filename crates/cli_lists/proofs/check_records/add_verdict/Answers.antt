-- Why a policy isn't read.
use Rattle.cli_lists.proofs.check_records.add_verdict.Goals as goal

pub returns-in-ReadFailure : goal.returns-in-ReadFailure
returns-in-ReadFailure c = rw c.in-ReadFailure.is (rw c.as_str.ensures.value at c.add_text.ensures)
