-- The step that a rule takes, as the model sees it.
use Rattle.own_model.specs.Listed as listed
use Rattle.list_routes.specs.declared.routing.RoutingStep.{RoutingStep}
use Rattle.list_routes.specs.declared.routing.RoutingStep.TheVariants.{Inside, Outside}

abbrev pub model_way : RoutingStep → listed.Way
model_way (Inside child) = listed.Way.Inside child
model_way Outside = listed.Way.Outside
