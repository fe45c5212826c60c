-- What is gathered is written, or a part of it.
use Rattle.run_lines.proofs.AccountLemmas.{flushed, flushed_in_part, list_in_part, on_err}
use Rattle.run_lines.proofs.account_list.write_list.Goals as goal

pub returns-clause-told : goal.returns-clause-told
returns-clause-told g c = flushed c.flush.result _ _ c.new-gathered.ensures c.flush.ensures.empty c.in_ok-put_list.ensures.told c.flush.ensures.told

pub returns-clause-part : goal.returns-clause-part
returns-clause-part g c = flushed_in_part c.flush.result _ _ c.new-gathered.ensures c.in_ok-put_list.ensures.told c.flush.ensures.told

pub returns-in_err-put_list-clause-part : goal.returns-in_err-put_list-clause-part
returns-in_err-put_list-clause-part g c = on_err c.from_residual.result (list_in_part c.new-gathered.ensures c.in_err-put_list.ensures.told)
