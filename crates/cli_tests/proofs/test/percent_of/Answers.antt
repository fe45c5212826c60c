-- Texts that are read as no percentage.
use Rattle.cli_tests.proofs.StatusLemmas.{unread_percentage}
use Rattle.cli_tests.proofs.test.percent_of.Goals as goal

pub returns-in-Err-clause-none : goal.returns-in-Err-clause-none
returns-in-Err-clause-none c = unread_percentage c.args.text.now c.in-Err.ensures.value.0
