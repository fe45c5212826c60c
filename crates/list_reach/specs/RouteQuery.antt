-- A question for a route path: a script by its path, a service, and session arguments.
use Rattle.std.specs.Prelude.{◌≡◌, ℕ, true, false, List, if◌then◌else◌, position, Option, Some, None, is_some}
use Rattle.std.specs.List.{slice_get}
use Rattle.std.specs.Option.{option_and_then, option_map, unwrap_or}
use Rattle.std.specs.Str.{bytes_eq}
use Rattle.own_model.specs.Listed.{Listed}
use Rattle.own_model.specs.SessionArgs.{arguments_of}
use Rattle.list_labels.specs.GivenLabels.{leads_to}
use Rattle.list_labels.specs.RouteSteps.{route_steps_of}
use Rattle.list_parser.specs.Depth.{runs_script}
use Rattle.list_reach.specs.declared.route_path.RoutePath.{RoutePath}
use Rattle.list_reach.specs.declared.route_path.RoutePathFault.{RoutePathFault}
use Rattle.list_reach.specs.declared.route_path.RoutePathFault.TheVariants.{Nobody, BadArgs, NoMemory}

-- an entry's number, if it is a script
abbrev pub if_script : Listed → ℕ → Option ℕ
if_script list number =
    if unwrap_or (option_map (λ entry. runs_script entry.binary) (slice_get list.entries number)) false then Some number else None

-- the number of the script of a path
abbrev pub script_named : Listed → List ℕ → Option ℕ
script_named list path = option_and_then (if_script list) (position (λ entry. bytes_eq entry.path path) list.entries)

-- the label of session arguments, which is empty if they have none
abbrev pub label_in : List ℕ → Option (List ℕ)
label_in args = option_map (λ arguments. arguments.label) (arguments_of args)

-- a route path is that of the script's request with the label of the arguments
pub record Answers (list : Listed) (path service args : List ℕ) (course : RoutePath) : Type 0 where
  pub client : script_named list path ≡ Some course.client
  pub label : List ℕ
  pub given : label_in args ≡ Some label
  pub child : course.child ≡ leads_to list course.client service label
  pub hops : course.hops.items ≡ route_steps_of list course.client service label

-- why there is none: no script has the path; or one has, and the arguments aren't in the grammar
abbrev pub IsWhy : Listed → List ℕ → List ℕ → RoutePathFault → Type 0
IsWhy list path args Nobody = script_named list path ≡ None
IsWhy list path args BadArgs = (is_some (script_named list path) ≡ true) × (label_in args ≡ None)
IsWhy list path args NoMemory = Unit {0}
