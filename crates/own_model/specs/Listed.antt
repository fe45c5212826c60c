-- A start list as its text denotes it, and where its rules lead.
use Rattle.std.specs.Prelude.{◌≡◌, ℕ, ◌&&◌, ◌==◌, zero, suc, Bool, false, List, [], ◌∷◌, ◌++◌, map, position, count_by, nat_eq, if◌then◌else◌, Option, Some, None}
use Rattle.std.specs.List.{list_any, starts_with, ends_with, slice_get}
use Rattle.std.specs.Option.{option_and_then, option_map, unwrap_or}
use Rattle.std.specs.Str.{bytes_eq}
use Rattle.trade_base.specs.Service.{service_name, services}
use Rattle.own_model.specs.Amounts.{Amounts}
use Rattle.own_model.specs.Offer.{Offer}
use Rattle.own_model.specs.Reserve.{no_reserve}
use Rattle.own_model.specs.Routes as routes
use Rattle.own_model.specs.Routes.{Lead, Level, Rule, ServerAt, as_asked, label_with}
use Rattle.own_model.specs.Routes.Lead.{To, Nowhere, Outward}
use Rattle.own_model.specs.StartList.{Kind, StartEntry, StartList}

-- what a component runs: a server has the name of its service, and what it offers
pub data Binary : Type 0 where
  Script : Binary
  Server : List ℕ → Offer → Binary
  Init : Binary

-- where a rule leads: to the child of a name, to any child, or out of this init
pub data Target : Type 0 where
  Child : List ℕ → Target
  AnyChild : Target
  Parent : Target

-- a rule: what it asks of the service and of the given label, as far as it asks, and its target
pub record ListedRule : Type 0 where
  pub service : Option (List ℕ)
  pub label : Option (List ℕ)
  pub label_prefix : Option (List ℕ)
  pub label_suffix : Option (List ℕ)
  pub target : Target

-- an entry: its name in its list, its path, which is the names of the inits above it and its own parted by `/`, its label, which
-- is the same parted by ` -> `, and the number of its init; what its account starts with, whether it provides the service of its
-- binary, its own route, if it has one, its reserve, if the list gives it one, and the default route of what it starts, if it is
-- an init
pub record ListedEntry : Type 0 where
  pub name : List ℕ
  pub path : List ℕ
  pub label : List ℕ
  pub home : ℕ
  pub binary : Binary
  pub ram : ℕ
  pub caps : ℕ
  pub provides : Bool
  pub route : Option (List ListedRule)
  pub reserve : Option Amounts
  pub inner_route : List ListedRule

-- a machine, the entries of all its lists, an init directly before its own, and the default route of the machine's own list
pub record Listed : Type 0 where
  pub pages : ℕ
  pub caps : ℕ
  pub default_route : List ListedRule
  pub entries : List ListedEntry

-- ---- inits

-- the entry of the init of a number; the machine's has none
abbrev pub init_entry : Listed → ℕ → Option ListedEntry
init_entry list zero = None
init_entry list (suc place) = slice_get list.entries place

-- the default route of the list of an init
abbrev pub default_of : Listed → ℕ → List ListedRule
default_of list zero = list.default_route
default_of list (suc place) = unwrap_or (option_map (λ entry. entry.inner_route) (slice_get list.entries place)) []

-- inits nest at most 3 deep below the machine's, so there is one list more
abbrev pub most_lists : ℕ
most_lists = 4

-- ---- services

-- the name of a binary's service, if it is a server's
abbrev pub service_in : Binary → Option (List ℕ)
service_in Script = None
service_in (Server service offer) = Some service
service_in Init = None

-- a name after others, if it is none of them
abbrev pub with_name : List (List ℕ) → Option (List ℕ) → List (List ℕ)
with_name names None = names
with_name names (Some name) = if list_any (bytes_eq name) names then names else names ++ name ∷ []

abbrev pub with_names : List (List ℕ) → List ListedEntry → List (List ℕ)
with_names names [] = names
with_names names (entry ∷ entries) = with_names (with_name names (service_in entry.binary)) entries

-- the services of a list: first those that the machine has built in, then each other one of its servers, by the first entry
abbrev pub services_of : List ListedEntry → List (List ℕ)
services_of entries = with_names (map service_name services) entries

-- ---- which child a route leads to

-- whether a service is the one of a binary
abbrev pub serves : Binary → List ℕ → Bool
serves Script asked = false
serves (Server service offer) asked = bytes_eq asked service
serves Init asked = false

-- an entry of an init's list provides a service
abbrev pub offers : ℕ → List ℕ → ListedEntry → Bool
offers init service entry = entry.home == init && (entry.provides && serves entry.binary service)

-- the child of a name, where it provides the service
abbrev pub named_provider : List ListedEntry → ℕ → List ℕ → List ℕ → Option ℕ
named_provider entries init name service = position (λ entry. bytes_eq entry.name name && offers init service entry) entries

-- the only child that provides the service; none if several do
abbrev pub only_provider : List ListedEntry → ℕ → List ℕ → Option ℕ
only_provider entries init service =
    if count_by (offers init service) entries == 1 then position (offers init service) entries else None

-- the end of a route in one list: the child at a place, none, or outward
pub data Way : Type 0 where
  Inside : Option ℕ → Way
  Outside : Way

abbrev pub way_to : List ListedEntry → ℕ → Target → List ℕ → Way
way_to entries init (Child name) service = Inside (named_provider entries init name service)
way_to entries init AnyChild service = Inside (only_provider entries init service)
way_to entries init Parent service = Outside

-- the service and the given label are as the rule asks
abbrev pub asks_for : ListedRule → List ℕ → List ℕ → Bool
asks_for rule service label =
    as_asked (bytes_eq service) rule.service
    && (as_asked (bytes_eq label) rule.label
    && (as_asked (starts_with nat_eq label) rule.label_prefix && as_asked (ends_with nat_eq label) rule.label_suffix))

-- the first rule that matches decides, also where it leads to no child
abbrev pub way_by : List ListedEntry → ℕ → List ListedRule → List ℕ → List ℕ → Way
way_by entries init [] service label = Inside None
way_by entries init (rule ∷ rules) service label =
    if asks_for rule service label then way_to entries init rule.target service
    else way_by entries init rules service label

-- an entry's own route, or else the default route of its list
abbrev pub rules_for : Listed → ListedEntry → List ListedRule
rules_for list entry = unwrap_or entry.route (default_of list entry.home)

-- the child at the end of a route, if outward is that one
abbrev pub end_of : Way → Option ℕ → Option ℕ
end_of (Inside child) outward = child
end_of Outside outward = outward

-- the child that the wish of an entry leads to, through so many lists at most: outward, the entry's init is the client, and the
-- entry's name comes before the label
abbrev pub route_within : ℕ → Listed → ListedEntry → List ℕ → List ℕ → Option ℕ
route_within zero list entry service label = None
route_within (suc lists) list entry service label =
    end_of (way_by list.entries entry.home (rules_for list entry) service label)
    (option_and_then (λ init. route_within lists list init service (label_with entry.name label)) (init_entry list entry.home))

-- the child to which a client's session request is routed
abbrev pub route_of : Listed → ℕ → List ℕ → List ℕ → Option ℕ
route_of list client service label =
    option_and_then (λ entry. route_within most_lists list entry service label) (slice_get list.entries client)

-- ---- what a list comes to in own step

-- what a binary offers to sessions, if it is a server's
abbrev pub offer_in : Binary → Option Offer
offer_in Script = None
offer_in (Server service offer) = Some offer
offer_in Init = None

abbrev pub offer_at : List ListedEntry → ℕ → Option Offer
offer_at entries child = option_and_then (λ entry. offer_in entry.binary) (slice_get entries child)

-- the server that the child at a place is, if its binary is one
abbrev pub server_at : List ListedEntry → ℕ → Option ServerAt
server_at entries child = option_map (λ kind. record { kind = kind; place = child }) (offer_at entries child)

-- a lead to a server, if there is one
abbrev pub lead_to : Option ServerAt → Lead
lead_to (Some server) = To server
lead_to None = Nowhere

-- the lead of a way
abbrev pub lead_of : List ListedEntry → Way → Lead
lead_of entries (Inside child) = lead_to (option_and_then (server_at entries) child)
lead_of entries Outside = Outward

-- that of a target for a service which no child provides
abbrev pub lead_without : Target → Lead
lead_without (Child name) = Nowhere
lead_without AnyChild = Nowhere
lead_without Parent = Outward

-- the rule of own step for what a rule says of one service, or of every other one
abbrev pub own_rule : ListedRule → Option (List ℕ) → Lead → Rule
own_rule rule service to = record {
  service = service;
  label = rule.label;
  label_prefix = rule.label_prefix;
  label_suffix = rule.label_suffix;
  to = to;
}

abbrev pub own_rule_for : List ListedEntry → ℕ → ListedRule → List ℕ → Rule
own_rule_for entries init rule service = own_rule rule (Some service) (lead_of entries (way_to entries init rule.target service))

-- a rule of any service is one for each service of the list, and one for every other
abbrev pub own_rules_asking : List ListedEntry → ℕ → ListedRule → Option (List ℕ) → List Rule
own_rules_asking entries init rule (Some service) = own_rule_for entries init rule service ∷ []
own_rules_asking entries init rule None =
    map (own_rule_for entries init rule) (services_of entries)
    ++ own_rule rule None (lead_without rule.target) ∷ []

abbrev pub own_rules : List ListedEntry → ℕ → List ListedRule → List Rule
own_rules entries init [] = []
own_rules entries init (rule ∷ rules) = own_rules_asking entries init rule rule.service ++ own_rules entries init rules

-- by what its own list decides for an entry
abbrev pub level_of : Listed → ListedEntry → Level
level_of list entry = record { name = entry.name; rules = own_rules list.entries entry.home (rules_for list entry) }

-- the levels of an entry's session requests, of so many lists at most: its own list's, and outward those of its init's
abbrev pub levels_within : ℕ → Listed → ListedEntry → List Level
levels_within zero list entry = []
levels_within (suc lists) list entry =
    level_of list entry ∷ unwrap_or (option_map (levels_within lists list) (init_entry list entry.home)) []

abbrev pub kind_of : Binary → Kind
kind_of Script = Kind.Script
kind_of (Server service offer) = Kind.Server
kind_of Init = Kind.Init

-- a script has the reserve that the list gives it, and else an empty one; who is no script has none
abbrev pub reserve_by : Binary → Option Amounts → Amounts
reserve_by Script given = unwrap_or given no_reserve
reserve_by (Server service offer) given = no_reserve
reserve_by Init given = no_reserve

abbrev pub reserve_of : ListedEntry → Amounts
reserve_of entry = reserve_by entry.binary entry.reserve

abbrev pub start_of : Listed → ListedEntry → StartEntry
start_of list entry = record {
  entry = record {
    name = entry.path;
    label = entry.label;
    kind = kind_of entry.binary;
    home = entry.home;
    routes = levels_within most_lists list entry;
  };
  ram = entry.ram;
  caps = entry.caps;
  reserve = reserve_of entry;
}

-- the start list of the model that a list denotes
abbrev pub start_list_of : Listed → StartList
start_list_of list = record { pages = list.pages; caps = list.caps; starts = map (start_of list) list.entries }

-- own step's routes lead where the list's rules do: to the child to which the session request is routed, and to its server
abbrev pub RoutesLeadToProviders : Type 0
RoutesLeadToProviders =
    (lists : ℕ) (list : Listed) (entry : ListedEntry) (service label : List ℕ) →
    routes.provider (levels_within lists list entry) service label
    ≡ option_and_then (server_at list.entries) (route_within lists list entry service label)
