-- One service more is resolved.
use Rattle.std.proofs.Common.{Some, ap, ◌∙◌}
use Rattle.own_model.specs.Listed.{lead_of, own_rule, own_rule_for, services_of, way_to}
use Rattle.list_parser.specs.Services.{service_text}
use Rattle.init_core.specs.Rows.{model_lead}
use Rattle.init_core.proofs.RuleLemmas.{one_resolved}
use Rattle.init_core.proofs.resolve.add_rule.Goals as goal

pub loop-number-preserved : goal.loop-number-preserved
loop-number-preserved c =
    let list = c.args.list.now in
    let rule = c.args.rule.now in
    let name = service_text c.service-service.result in
    one_resolved (own_rule_for list.entries c.args.init rule) c.loop-number.resolved.items c.push-in-loop-number.new.self.items _ (services_of list.entries) c.loop-number.number name
    c.in_ok-new-in-None.field-0 c.loop-number.invariant c.service-service.ensures c.in_ok-push-in-None.ensures.items
    (c.in_ok-new-in-None.ensures
    ∙ ap (λ asked. own_rule rule asked (model_lead c.in_ok-to-in-None.to)) c.of_service-test.ensures
    ∙ ap (own_rule rule (Some name)) (c.in_ok-to-in-None.ensures
    ∙ (λ j. lead_of list.entries (way_to list.entries c.args.init (c.target-in-loop-number.ensures j) ((c.as_bytes-in-loop-number.ensures.value ∙ c.name.ensures.text) j)))))
