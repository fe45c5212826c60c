-- The route decisions on the requests of all scripts, for each service, for each name that a rule asks for, and for any other
-- name.
use Rattle.std.specs.Prelude.{◌≡◌, ℕ, List, [], ◌∷◌, flat_map, map, if◌then◌else◌, Option, Some, None, All}
use Rattle.std.specs.List.{enumerate_from}
use Rattle.own_model.specs.Listed.{Listed, ListedEntry, ListedRule, services_of, with_name}
use Rattle.list_parser.specs.Depth.{runs_script}
use Rattle.list_reach.specs.Additions.{AddsBy}
use Rattle.list_reach.specs.Deciding.{AreDecisions, DecisionAt}

-- ---- services

-- with those that rules ask for
abbrev pub with_rules : List (List ℕ) → List ListedRule → List (List ℕ)
with_rules services [] = services
with_rules services (rule ∷ rules) = with_rules (with_name services rule.service) rules

abbrev pub with_route : List (List ℕ) → Option (List ListedRule) → List (List ℕ)
with_route services None = services
with_route services (Some rules) = with_rules services rules

abbrev pub with_entry : List (List ℕ) → ListedEntry → List (List ℕ)
with_entry services entry = with_rules (with_route services entry.route) entry.inner_route

abbrev pub with_entries : List (List ℕ) → List ListedEntry → List (List ℕ)
with_entries services [] = services
with_entries services (entry ∷ entries) = with_entries (with_entry services entry) entries

-- an empty name, which no rule asks for, the services of the list, and those that some rule asks for
abbrev pub names_asked : Listed → List (List ℕ)
names_asked list = with_entries (with_rules ([] ∷ services_of list.entries) list.default_route) list.entries

-- ---- scripts that ask for them

pub record Asking : Type 0 where
  pub client : ℕ
  pub service : List ℕ

-- an entry, by its number, if it is a script's
abbrev pub asking_by : List ℕ → ℕ × ListedEntry → List Asking
asking_by service entry = if runs_script entry.1.binary then record { client = entry.0; service = service } ∷ [] else []

abbrev pub askings_for : Listed → List ℕ → List Asking
askings_for list service = flat_map (asking_by service) (enumerate_from 0 list.entries)

abbrev pub askings : Listed → List Asking
askings list = flat_map (askings_for list) (names_asked list)

-- ---- how their requests are decided

pub record ViewOf : Type 0 where
  pub client : ℕ
  pub service : List ℕ
  pub trails : List DecisionAt

abbrev pub asking_of : ViewOf → Asking
asking_of view = record { client = view.client; service = view.service }

-- a view's decisions are those on its script's requests for its service
abbrev pub IsShown : Listed → ViewOf → Type 0
IsShown list view = AreDecisions list view.client view.service view.trails

-- these askings have views, after those that were there
abbrev pub Shows : Listed → List ViewOf → List Asking → List ViewOf → Type 0
Shows list old more new = AddsBy asking_of (IsShown list) old more new

-- all have
pub record ShowAll (list : Listed) (views : List ViewOf) : Type 0 where
  pub asked : map asking_of views ≡ askings list
  pub shown : All (IsShown list) views
