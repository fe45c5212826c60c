-- The names of the parts of a start list.
use Rattle.std.specs.Prelude.{ℕ, List, [], ◌∷◌, ◌++◌, codes, decimal, string_bytes, Option, Some, None}
use Rattle.std.specs.List.{slice_get}
use Rattle.std.specs.Option.{option_and_then, option_map, unwrap_or}
use Rattle.own_model.specs.Listed.{Listed, ListedEntry, services_of}
use Rattle.view_coverage.specs.declared.event.CoverageEvent.{CoverageEvent}
use Rattle.view_coverage.specs.declared.event.CoverageEvent.TheVariants.{Decided, Requested}
use Rattle.view_coverage.specs.declared.event.RouteOwner.{RouteOwner}
use Rattle.view_coverage.specs.declared.event.RouteOwner.TheVariants.{Own, Inner, Machine}
use Rattle.view_coverage.specs.declared.event.RulePlace.{RulePlace}
use Rattle.view_coverage.specs.declared.report.PartName.{PartName}
use Rattle.view_coverage.specs.declared.report.PartName.TheVariants.{Rule, Request}

-- the path of the component of a number, if there is one
abbrev pub path_of : Listed → ℕ → Option (List ℕ)
path_of list number = option_map (λ (entry : ListedEntry). entry.path) (slice_get list.entries number)

-- ---- rules

abbrev pub route_word : RouteOwner → List ℕ
route_word (Own number) = codes "route"
route_word (Inner number) = codes "default-route"
route_word Machine = codes "default-route"

-- the component whose route it is, unless it is the machine's
abbrev pub owner_number : RouteOwner → Option ℕ
owner_number (Own number) = Some number
owner_number (Inner number) = Some number
owner_number Machine = None

-- a rule of a route by its place, and the path of the component whose route it is
abbrev pub rule_text : List ℕ → ℕ → Option (List ℕ) → List ℕ
rule_text route place None = route ++ (codes "[" ++ (decimal place ++ codes "]"))
rule_text route place (Some path) = route ++ (codes "[" ++ (decimal place ++ (codes "] of " ++ path)))

abbrev pub rule_name : Listed → RulePlace → List ℕ
rule_name list rule =
    rule_text (route_word rule.route) rule.place (option_and_then (path_of list) (owner_number rule.route))

-- ---- session requests

abbrev pub script_path : Listed → ℕ → List ℕ
script_path list number = unwrap_or (path_of list number) []

abbrev pub requested_service : Listed → ℕ → List ℕ
requested_service list number = unwrap_or (slice_get (services_of list.entries) number) []

-- ---- parts

-- the name of a rule; the script and the service of a session request
abbrev pub names_by : Listed → CoverageEvent → List (List ℕ)
names_by list (Decided rule) = rule_name list rule ∷ []
names_by list (Requested asked) = script_path list asked.client ∷ requested_service list asked.service ∷ []

-- the same of a part
abbrev pub names_in : PartName → List (List ℕ)
names_in (Rule name) = string_bytes name ∷ []
names_in (Request script service) = string_bytes script ∷ string_bytes service ∷ []
