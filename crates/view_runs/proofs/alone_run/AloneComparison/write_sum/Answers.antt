-- What is gathered is written, or a part of it.
use Rattle.run_lines.proofs.AccountLemmas.{list_cut}
use Rattle.run_scenario.proofs.WriteLemmas.{written_err}
use Rattle.view_runs.proofs.alone_run.AloneComparison.write_sum.Goals as goal

pub returns-in_err-flush-clause-written : goal.returns-in_err-flush-clause-written
returns-in_err-flush-clause-written g c = λ none. written_err _ _ _ _ c.from_residual-in_err-flush.ensures.1 (list_cut c.new-gathered.ensures (c.in_ok-put_sum.ensures.told none) c.in_err-flush.ensures.told)
