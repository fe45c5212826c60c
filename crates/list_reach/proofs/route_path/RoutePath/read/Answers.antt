-- The route path of the script with the label of the arguments.
use Rattle.std.proofs.Common.{Some, sym, ap, ◌∙◌}
use Rattle.std.specs.Option.{option_map}
use Rattle.own_model.specs.SessionArgs.{Arguments}
use Rattle.list_labels.specs.GivenLabels.{leads_to}
use Rattle.list_labels.specs.RouteSteps.{route_steps_of}
use Rattle.list_reach.proofs.route_path.RoutePath.read.Goals as goal

pub returns-in-Ok-of-clause-answers : goal.returns-in-Ok-of-clause-answers
returns-in-Ok-of-clause-answers c =
    let list = c.args.list.now in
    let service = c.args.service.now in
    let label = c.in-Ok.args.label in
    let of = c.in-Ok-of.ensures in
    record {
      client = sym c.script_named.ensures.named ∙ c.in-Some.is ∙ ap Some (sym of.client);
      label = label;
      given = ap (option_map (λ (arguments : Arguments). arguments.label)) c.in-Ok.ensures.value;
      child = of.child ∙ ap (leads_to list c.in-Some.client service) c.label.ensures ∙ ap (λ client. leads_to list client service label) (sym of.client);
      hops = of.hops ∙ ap (route_steps_of list c.in-Some.client service) c.label.ensures ∙ ap (λ client. route_steps_of list client service label) (sym of.client);
    }
