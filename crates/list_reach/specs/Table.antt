-- What a table and a list of paths state of scripts and servers.
use Rattle.std.specs.Prelude.{◌≡◌, Some}
use Rattle.own_model.specs.Listed.{Listed}
use Rattle.list_labels.specs.RouteSteps.{route_steps_of}
use Rattle.list_labels.specs.GivenLabels.{IsGiven, leads_to}
use Rattle.list_labels.specs.LabelSets.{IsSetOf}
use Rattle.list_reach.specs.ClientReach.{DescribesReach}
use Rattle.list_reach.specs.declared.reach_cell.ReachCell.{ReachCell}
use Rattle.list_reach.specs.declared.reach_path_list.ReachPath.{ReachPath}

-- a cell states whether its client's requests for its service are routed to its server, and its set has exactly the labels that are
pub record IsTrue (list : Listed) (cell : ReachCell) : Type 0 where
  pub reach : DescribesReach list cell.client cell.service.now cell.server cell.reach
  pub labels : IsSetOf list cell.client cell.service.now cell.server cell.labels

-- a path's label is given, and its client's requests for its service are routed to its server by the path's rules
pub record IsReachPath (list : Listed) (way : ReachPath) : Type 0 where
  pub given : IsGiven way.label
  pub leads : leads_to list way.client way.service.now way.label ≡ Some way.server
  pub decides : way.course.hops.items ≡ route_steps_of list way.client way.service.now way.label
