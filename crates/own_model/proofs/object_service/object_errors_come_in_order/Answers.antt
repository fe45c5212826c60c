-- By the table, request by request.
use Rattle.own_model.proofs.ObjectErrorLemmas.{errors_in_order, nodes_are_blocks, others_served}
use Rattle.own_model.proofs.object_service.object_errors_come_in_order.Goals as goal

pub returns-clause-order : goal.returns-clause-order
returns-clause-order c = errors_in_order

pub returns-clause-others : goal.returns-clause-others
returns-clause-others c = others_served

pub returns-clause-nodes : goal.returns-clause-nodes
returns-clause-nodes c = nodes_are_blocks
