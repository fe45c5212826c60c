-- Rules by their places, and which of them decide the session request of an answered call.
use Rattle.std.specs.Prelude.{ℕ, ◌&&◌, ◌==◌, zero, suc, Bool, true, false, List, [], ◌∷◌, ◌++◌, is_some, if◌then◌else◌, position, Option, Some, None}
use Rattle.std.specs.List.{list_any, slice_get}
use Rattle.std.specs.Option.{option_and_then, option_map}
use Rattle.std.specs.Str.{bytes_eq}
use Rattle.trade_base.specs.declared.refusal.Refusal.{Refusal}
use Rattle.trade_base.specs.declared.refusal.Refusal.TheVariants.{BadLine, UnknownComponent, NotAScript, Gone, BadArgs}
use Rattle.trade_base.specs.Refusal.{refusal_name}
use Rattle.own_model.specs.Call.{Call, Spoken}
use Rattle.own_model.specs.Call.Call.{Open}
use Rattle.own_model.specs.Listed.{Listed, ListedEntry}
use Rattle.own_model.specs.Session.{given}
use Rattle.list_labels.specs.RouteSteps.{RouteStepAt, route_steps_of}
use Rattle.view_coverage.specs.declared.event.RouteOwner.{RouteOwner}
use Rattle.view_coverage.specs.declared.event.RouteOwner.TheVariants.{Own, Inner, Machine}
use Rattle.view_coverage.specs.declared.event.RulePlace.{RulePlace}

abbrev pub is_same : RouteOwner → RouteOwner → Bool
is_same (Own entry) (Own number) = entry == number
is_same (Own entry) (Inner number) = false
is_same (Own entry) Machine = false
is_same (Inner init) (Own number) = false
is_same (Inner init) (Inner number) = init == number
is_same (Inner init) Machine = false
is_same Machine (Own number) = false
is_same Machine (Inner number) = false
is_same Machine Machine = true

abbrev pub is_rule : RulePlace → RulePlace → Bool
is_rule rule other = rule.place == other.place && is_same rule.route other.route

-- ---- the places of rules

-- the number of the entry that is an init, by the init's number; the machine's is none
abbrev pub init_place : ℕ → Option ℕ
init_place zero = None
init_place (suc place) = Some place

-- the default route of the list of an init
abbrev pub default_of : Option ℕ → RouteOwner
default_of None = Machine
default_of (Some place) = Inner place

-- the rules for an entry: its own, or those of its list
abbrev pub route_by : ℕ → ListedEntry → RouteOwner
route_by client entry = if is_some entry.route then Own client else default_of (init_place entry.home)

abbrev pub init_of : Listed → ℕ → Option ℕ
init_of list client = option_and_then (λ (entry : ListedEntry). init_place entry.home) (slice_get list.entries client)

-- a rule of a route, if one decides
abbrev pub rule_in : Option RouteOwner → Option ℕ → List RulePlace
rule_in None place = []
rule_in (Some route) None = []
rule_in (Some route) (Some place) = record { route = route; place = place } ∷ []

abbrev pub route_for : Listed → ℕ → Option RouteOwner
route_for list client = option_map (route_by client) (slice_get list.entries client)

-- the rules that decide list by list, from those for an entry on outward
abbrev pub rules_from : Listed → Option ℕ → List RouteStepAt → List RulePlace
rules_from list asks [] = []
rules_from list asks (hop ∷ hops) =
    rule_in (option_and_then (route_for list) asks) hop.rule ++ rules_from list (option_and_then (init_of list) asks) hops

-- ---- the session request of a call

-- by the number of the component that makes it
pub record SessionRequest : Type 0 where
  pub client : ℕ
  pub service : List ℕ
  pub label : List ℕ

abbrev pub client_of : Listed → List ℕ → Option ℕ
client_of list name = position (λ entry. bytes_eq entry.path name) list.entries

abbrev pub request_by : Listed → List ℕ → Call → Option SessionRequest
request_by list name (Open service text) =
    option_map (λ client. record { client = client; service = service; label = (given text).label }) (client_of list name)
request_by list name call = None

abbrev pub rules_of_request : Listed → Option SessionRequest → List RulePlace
rules_of_request list None = []
rules_of_request list (Some request) =
    rules_from list (Some request.client) (route_steps_of list request.client request.service request.label)

-- ---- of an answered call

-- the refusals of a call that is refused before any rule is asked
abbrev pub turned_away : List Refusal
turned_away = BadLine ∷ UnknownComponent ∷ NotAScript ∷ Gone ∷ BadArgs ∷ []

abbrev pub is_turned_away : List ℕ → Bool
is_turned_away reply = list_any (λ refusal. bytes_eq reply (refusal_name refusal)) turned_away

-- the session request of a call with this reply, unless it was refused before any rule was asked
abbrev pub request_of : Listed → Spoken → List ℕ → Option SessionRequest
request_of list said reply = if is_turned_away reply then None else request_by list said.name said.call
