-- The rows of one service more.
use Rattle.own_model.specs.Listed.{services_of}
use Rattle.view_coverage.proofs.ServiceLemmas.{one_service_more}
use Rattle.view_coverage.proofs.table.add_services.Goals as goal

pub loop-service-preserved : goal.loop-service-preserved
loop-service-preserved c =
    one_service_more c.args.list.now.entries c.args.client c.loop-service.service c.service_name-name.result.now
    (services_of c.args.list.now.entries) c.loop-service.rows.items _ _
    c.service_name-name.ensures c.in_ok-add_service.ensures c.loop-service.invariant
