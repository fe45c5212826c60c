-- One service after another.
use Rattle.std.proofs.Common.{sym, ◌∙◌}
use Rattle.std.specs.Str.{bytes_eq}
use Rattle.own_model.specs.Listed.{services_of}
use Rattle.list_parser.specs.Services.{service_text}
use Rattle.list_findings.proofs.ServiceNames.{any_here, any_later}
use Rattle.list_findings.proofs.near.is_service.Goals as goal

pub returns-then-is_named : goal.returns-then-is_named
returns-then-is_named c =
    sym (any_here (bytes_eq c.args.written.now) (services_of c.args.list.now.entries) c.loop-number.number (service_text c.service-service.result)
    c.service-service.ensures (sym c.is_named.ensures ∙ c.if-is_named.true))
    ∙ c.loop-number.invariant

pub loop-number-preserved : goal.loop-number-preserved
loop-number-preserved c =
    sym (any_later (bytes_eq c.args.written.now) (services_of c.args.list.now.entries) c.loop-number.number (service_text c.service-service.result)
    c.service-service.ensures (sym c.is_named.ensures ∙ c.if-is_named.false))
    ∙ c.loop-number.invariant
