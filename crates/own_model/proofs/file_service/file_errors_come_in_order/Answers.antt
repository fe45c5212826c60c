-- By the table, request by request.
use Rattle.own_model.proofs.FileErrorLemmas.{errors_in_order, others_served}
use Rattle.own_model.proofs.file_service.file_errors_come_in_order.Goals as goal

pub returns-clause-order : goal.returns-clause-order
returns-clause-order c = errors_in_order

pub returns-clause-others : goal.returns-clause-others
returns-clause-others c = others_served
