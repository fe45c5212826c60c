-- The coverage of a machine by the answered calls of a scenario: which of its rows are met.
use Rattle.std.specs.Prelude.{ℕ, ◌+◌, ◌&&◌, ◌==◌, ◌||◌, zero, suc, Bool, false, List, [], ◌∷◌, ◌++◌, if◌then◌else◌, map, length, Option, Some, None}
use Rattle.std.specs.List.{list_any}
use Rattle.std.specs.Option.{option_and_then, option_map}
use Rattle.std.specs.Str.{bytes_eq}
use Rattle.own_model.specs.Listed.{Listed, ListedEntry, ListedRule, offers, services_of}
use Rattle.own_model.specs.Call.{Spoken, parsed_call}
use Rattle.list_parser.specs.Depth.{runs_script}
use Rattle.run_exchanges.specs.Exchange.{Exchange}
use Rattle.view_coverage.specs.Rules.{SessionRequest, is_rule, request_of, rules_of_request}
use Rattle.view_coverage.specs.declared.event.CoverageEvent.{CoverageEvent}
use Rattle.view_coverage.specs.declared.event.CoverageEvent.TheVariants.{Decided, Requested}
use Rattle.view_coverage.specs.declared.event.RouteOwner.{RouteOwner}
use Rattle.view_coverage.specs.declared.event.RouteOwner.TheVariants.{Own, Inner, Machine}
use Rattle.view_coverage.specs.declared.event.RulePlace.{RulePlace}
use Rattle.view_coverage.specs.declared.event.ScriptService.{ScriptService}
use Rattle.view_coverage.specs.declared.row.CallEvidence.{CallEvidence}
use Rattle.view_coverage.specs.declared.row.CoverageRow.{CoverageRow}

-- ---- answers

-- a call, as the engine's line, and its reply
pub record Answer : Type 0 where
  pub line : List ℕ
  pub reply : List ℕ

abbrev pub answer_of : Exchange → Answer
answer_of exchange = record { line = exchange.line; reply = exchange.reply }

-- ---- what an answer shows

abbrev pub has_rule : List RulePlace → RulePlace → Bool
has_rule rules rule = list_any (is_rule rule) rules

-- a session request of a script, with the number of its service, is one of a script for a service
abbrev pub is_request : ScriptService → Option ScriptService → Bool
is_request asked None = false
is_request asked (Some request) = asked.client == request.client && asked.service == request.service

-- the number of the service of a name among these, the first of which has this number, if one has the name
abbrev pub service_number : List ℕ → ℕ → List (List ℕ) → Option ℕ
service_number name number [] = None
service_number name number (service ∷ services) =
    if bytes_eq service name then Some number else service_number name (number + 1) services

-- the script and the service of a session request, if the list has the service
abbrev pub asked_by : Listed → SessionRequest → Option ScriptService
asked_by list request =
    option_map (λ number. record { client = request.client; service = number })
    (service_number request.service 0 (services_of list.entries))

abbrev pub asked_in : Listed → Option SessionRequest → Option ScriptService
asked_in list request = option_and_then (asked_by list) request

-- the evidence of an answered line: the rules that decided its session request, and the request's script and service, if the line
-- makes a request
pub record Evidence : Type 0 where
  pub asked : Option ScriptService
  pub rules : List RulePlace

abbrev pub evidence_in : CallEvidence → Evidence
evidence_in it = record { asked = it.asked; rules = it.rules.now }

-- the evidence of a line, by its call, if it has one, and by its reply
abbrev pub evidence_of : Listed → Option Spoken → List ℕ → Evidence
evidence_of list None reply = record { asked = None; rules = [] }
evidence_of list (Some said) reply = record {
  asked = asked_in list (request_of list said reply);
  rules = rules_of_request list (request_of list said reply);
}

abbrev pub evidence : Listed → Answer → Evidence
evidence list answer = evidence_of list (parsed_call answer.line) answer.reply

-- the evidence shows an event
abbrev pub shown_with : Evidence → CoverageEvent → Bool
shown_with it (Decided rule) = has_rule it.rules rule
shown_with it (Requested asked) = is_request asked it.asked

abbrev pub is_shown : Listed → CoverageEvent → Answer → Bool
is_shown list event answer = shown_with (evidence list answer) event

-- ---- rows

-- a row after a line was answered
abbrev pub row_with : Evidence → CoverageRow → CoverageRow
row_with it row = record { event = row.event; met = row.met || shown_with it row.event }

-- rows after these lines were answered
abbrev pub rows_after : Listed → List Answer → List CoverageRow → List CoverageRow
rows_after list [] rows = rows
rows_after list (answer ∷ answers) rows = rows_after list answers (map (row_with (evidence list answer)) rows)

abbrev pub unmet : CoverageEvent → CoverageRow
unmet event = record { event = event; met = false }

-- the rows of so many rules of a route
abbrev pub route_rows : RouteOwner → ℕ → List CoverageRow
route_rows route zero = []
route_rows route (suc count) = route_rows route count ++ unmet (Decided (record { route = route; place = count })) ∷ []

abbrev pub own_rows : ℕ → Option (List ListedRule) → List CoverageRow
own_rows number None = []
own_rows number (Some rules) = route_rows (Own number) (length rules)

abbrev pub rows_of_entry : ℕ → ListedEntry → List CoverageRow
rows_of_entry number entry = own_rows number entry.route ++ route_rows (Inner number) (length entry.inner_route)

abbrev pub rows_of_entries : ℕ → List ListedEntry → List CoverageRow
rows_of_entries number [] = []
rows_of_entries number (entry ∷ entries) = rows_of_entry number entry ++ rows_of_entries (number + 1) entries

-- an entry of the list provides a service
abbrev pub is_provided : List ListedEntry → List ℕ → Bool
is_provided entries service = list_any (λ entry. offers entry.home service entry) entries

-- the row of a script's requests of a service, by its number and its name, if an entry provides it
abbrev pub service_rows : List ListedEntry → ℕ → ℕ → List ℕ → List CoverageRow
service_rows entries client number service =
    if is_provided entries service then unmet (Requested (record { client = client; service = number })) ∷ [] else []

-- those of services, the first of which has this number
abbrev pub services_rows : List ListedEntry → ℕ → ℕ → List (List ℕ) → List CoverageRow
services_rows entries client number [] = []
services_rows entries client number (service ∷ services) =
    service_rows entries client number service ++ services_rows entries client (number + 1) services

-- the rows of the session requests of an entry: of a script one for each service of the list
abbrev pub script_rows : List ListedEntry → ℕ → ListedEntry → List CoverageRow
script_rows all number entry = if runs_script entry.binary then services_rows all number 0 (services_of all) else []

abbrev pub scripts_rows : List ListedEntry → ℕ → List ListedEntry → List CoverageRow
scripts_rows all number [] = []
scripts_rows all number (entry ∷ entries) = script_rows all number entry ++ scripts_rows all (number + 1) entries

-- the rows of a machine, none of them met: of each rule, and of each script and service
abbrev pub rows_of : Listed → List CoverageRow
rows_of list =
    route_rows Machine (length list.default_route) ++ rows_of_entries 0 list.entries ++ scripts_rows list.entries 0 list.entries

-- ---- all answers

-- a row is also met if some answer shows its event
abbrev pub row_by : Listed → List Answer → CoverageRow → CoverageRow
row_by list answers row = record { event = row.event; met = row.met || list_any (is_shown list row.event) answers }
