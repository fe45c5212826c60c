-- One service after another.
use Rattle.std.proofs.Common.{sym, ◌∙◌}
use Rattle.own_model.specs.Listed.{services_of}
use Rattle.list_parser.specs.Services.{service_text}
use Rattle.list_findings.specs.Findings.{is_in_case}
use Rattle.list_findings.proofs.ServiceNames.{find_here, find_later}
use Rattle.list_findings.proofs.near.meant_by.Goals as goal

pub returns-then-is_in_case : goal.returns-then-is_in_case
returns-then-is_in_case c =
    c.name_of.ensures
    ∙ sym (find_here (is_in_case c.args.written.now) (services_of c.args.list.now.entries) c.loop-number.number (service_text c.service-service.result)
    c.service-service.ensures (sym c.is_in_case.ensures ∙ c.if-is_in_case.true))
    ∙ c.loop-number.invariant

pub loop-number-preserved : goal.loop-number-preserved
loop-number-preserved c =
    sym (find_later (is_in_case c.args.written.now) (services_of c.args.list.now.entries) c.loop-number.number (service_text c.service-service.result)
    c.service-service.ensures (sym c.is_in_case.ensures ∙ c.if-is_in_case.false))
    ∙ c.loop-number.invariant
