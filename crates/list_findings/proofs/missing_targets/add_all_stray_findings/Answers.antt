-- The findings for one service more.
use Rattle.own_model.specs.Listed.{services_of}
use Rattle.list_parser.specs.Services.{service_text}
use Rattle.list_findings.specs.Findings.{strays_of}
use Rattle.list_parts.specs.Steps.{part_of}
use Rattle.list_parts.specs.declared.list_part.PartId.TheVariants as about
use Rattle.list_reach.proofs.ServiceLemmas.{one_service_more}
use Rattle.list_findings.proofs.missing_targets.add_all_stray_findings.Goals as goal

pub loop-number-preserved : goal.loop-number-preserved
loop-number-preserved c =
    let entries = c.args.list.now.entries in
    let placed = c.args.placed in
    one_service_more
    (strays_of entries placed.init (part_of entries (about.Rule placed.owner placed.place)) placed.earlier.now placed.rule.now)
    (services_of entries) c.loop-number.number (service_text c.service-service.result) c.loop-number.found.items _ _
    c.service-service.ensures c.in_ok-add_stray_finding.ensures c.loop-number.invariant
