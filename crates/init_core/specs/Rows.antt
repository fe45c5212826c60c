-- The routes of a machine as a table keeps them: a row for each entry, with its own list's rules. The levels outward are found by
-- the numbers of inits.
use Rattle.std.specs.Prelude.{ℕ, zero, suc, List, [], ◌∷◌, map, Option, Some, None}
use Rattle.std.specs.List.{find, slice_get}
use Rattle.std.specs.Option.{option_map, unwrap_or}
use Rattle.std.specs.Str.{bytes_eq}
use Rattle.trade_base.specs.Service.{service_name, services}
use Rattle.trade_base.specs.declared.service.BuiltInService.{BuiltInService}
use Rattle.own_model.specs.Listed.{Listed, ListedEntry, level_of, most_lists}
use Rattle.own_model.specs.Offer.{offer_of_service}
use Rattle.own_model.specs.Offer.Offer.{OffersObjects}
use Rattle.own_model.specs.Routes as model
use Rattle.own_model.specs.Routes.{Level, provider}
use Rattle.pd_core.specs.Component.{Place}
use Rattle.pd_core.specs.Core.{Places}
use Rattle.init_core.specs.declared.rule.ResolvedTarget.{ResolvedTarget}
use Rattle.init_core.specs.declared.rule.ResolvedTarget.TheVariants.{ToBuiltIn, ToDeclared, Nowhere, Outward}
use Rattle.init_core.specs.declared.rule.Destination.{Destination}
use Rattle.init_core.specs.declared.rule.Destination.TheVariants as destination
use Rattle.init_core.specs.declared.rule.ServiceTest.{ServiceTest}
use Rattle.init_core.specs.declared.rule.ServiceTest.TheVariants.{Known, Named, Any}

-- ---- what the code's types denote

abbrev pub model_lead : ResolvedTarget → model.Lead
model_lead (ToBuiltIn service place) = model.Lead.To (record { kind = offer_of_service service; place = place })
model_lead (ToDeclared service place) = model.Lead.To (record { kind = OffersObjects service.value.kinds; place = place })
model_lead Nowhere = model.Lead.Nowhere
model_lead Outward = model.Lead.Outward

-- the destination that a lead decides
abbrev pub destination_of : model.Lead → Destination
destination_of (model.Lead.To server) = destination.Server server.place
destination_of model.Lead.Nowhere = destination.Nowhere
destination_of model.Lead.Outward = destination.Outward

-- the name that is asked for, if one is
abbrev pub name_asked : ServiceTest → Option (List ℕ)
name_asked (Known service) = Some (service_name service)
name_asked (Named name) = Some name
name_asked Any = None

-- the service of a name, if it is one's
abbrev pub service_named : List ℕ → Option BuiltInService
service_named name = find (λ service. bytes_eq name (service_name service)) services

-- ---- rows

-- of an entry: its path, the number of its init, and what its own list decides by for it
pub record RouteRow : Type 0 where
  pub path : List ℕ
  pub home : ℕ
  pub level : Level

-- the row of the init of a number; the machine's has none
abbrev pub init_row : List RouteRow → ℕ → Option RouteRow
init_row rows zero = None
init_row rows (suc place) = slice_get rows place

-- the levels of a row, of so many lists at most: its own, and outward those of its init's
abbrev pub levels : ℕ → List RouteRow → RouteRow → List Level
levels zero rows row = []
levels (suc lists) rows row = row.level ∷ unwrap_or (option_map (levels lists rows) (init_row rows row.home)) []

-- those of the row at a place, if there is one
abbrev pub levels_at : ℕ → List RouteRow → ℕ → List Level
levels_at lists rows place = unwrap_or (option_map (levels lists rows) (slice_get rows place)) []

-- ---- what a router states by them

-- the description of a place in a row; without a row there is none
abbrev pub place_by : List RouteRow → Option RouteRow → Place
place_by rows row = record {
  name = unwrap_or (option_map (λ (told : RouteRow). told.path) row) [];
  home = unwrap_or (option_map (λ (told : RouteRow). told.home) row) 0;
  routes = unwrap_or (option_map (levels most_lists rows) row) [];
}

abbrev pub places_in : List RouteRow → Places
places_in rows place = place_by rows (slice_get rows place)

-- the place of the server to which the rows route a client's request
abbrev pub server_by_rows : List RouteRow → ℕ → List ℕ → List ℕ → Option ℕ
server_by_rows rows client service label = option_map (λ (server : model.ServerAt). server.place) (provider (levels_at most_lists rows client) service label)

-- ---- the rows of a list

abbrev pub row_of : Listed → ListedEntry → RouteRow
row_of list entry = record { path = entry.path; home = entry.home; level = level_of list entry }

abbrev pub rows_of : Listed → List RouteRow
rows_of list = map (row_of list) list.entries
