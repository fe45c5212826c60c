-- Which labels of a script's requests are routed to a server on one of two start lists alone.
use Rattle.std.specs.Prelude.{◌≡◌, ℕ, ◌==◌, ◌&&◌, ◌||◌, Bool, true, false, List, [], ◌∷◌, ◌++◌, find, is_some, Option, Some, None}
use Rattle.std.specs.List.{flat_map, slice_get}
use Rattle.std.specs.Option.{option_copied, option_map, option_to_list}
use Rattle.std.specs.Str.{bytes_eq}
use Rattle.own_model.specs.Listed.{Listed, ListedEntry}
use Rattle.list_reach.specs.Comparisons.{Compares, IsSetBy}
use Rattle.list_reach.specs.RoutedLabels.{RoutedLabel, is_gained, is_lost}
use Rattle.list_reach.specs.declared.client_reach.Reach.{Reach}
use Rattle.list_reach.specs.declared.reach_cell.ReachCell.{ReachCell}
use Rattle.list_diff.specs.Changes.{place_of}
use Rattle.list_diff.specs.Moves.{AreMoved}
use Rattle.list_diff.specs.Routes.{Pair, routes}
use Rattle.list_diff.specs.declared.moved_labels.MovedLabels.{MovedLabels}
use Rattle.list_diff.specs.declared.reach_changes.ReachChange.{ReachChange}
use Rattle.list_diff.specs.declared.reach_changes.ReachSide.{ReachSide}
use Rattle.list_diff.specs.declared.reach_changes.ServiceComparison.{ServiceComparison}

-- the requests of a script for a service are compared on two lists
abbrev pub IsCompared : Listed → Listed → ServiceComparison → Type 0
IsCompared before after one =
    Compares (routes before one.client.now.path one.service.now) (routes after one.client.now.path one.service.now) one.compared

-- ---- the pairs that are compared

abbrev pub pair_of : List ℕ → Option ListedEntry → Option ListedEntry → Option Pair
pair_of service None server = None
pair_of service (Some client) None = None
pair_of service (Some client) (Some server) = Some (record { client = client; service = service; server = server })

-- the script and the server of a cell
abbrev pub pair_at : ReachSide → ReachCell → Option Pair
pair_at side cell = pair_of cell.service.now (slice_get side.list.now.entries cell.client) (slice_get side.list.now.entries cell.server)

-- a cell is of this script, service and server
abbrev pub is_cell : ℕ → List ℕ → ℕ → ReachCell → Bool
is_cell client service server cell = cell.client == client && (cell.server == server && bytes_eq cell.service.now service)

abbrev pub cell_at : List ReachCell → List ℕ → Option ℕ → Option ℕ → Option ReachCell
cell_at cells service None server = None
cell_at cells service (Some client) None = None
cell_at cells service (Some client) (Some server) = find (is_cell client service server) cells

-- the cell that a table has of a pair, by their paths
abbrev pub cell_of : ReachSide → Pair → Option ReachCell
cell_of side pair = cell_at side.cells.now pair.service (place_of side.list.now pair.client.path) (place_of side.list.now pair.server.path)

abbrev pub reach_of : ReachSide → Pair → Option Reach
reach_of side pair = option_map (λ cell. cell.reach) (cell_of side pair)

-- the pair of a cell before
abbrev pub old_pair : Option Pair → List Pair
old_pair None = []
old_pair (Some pair) = pair ∷ []

abbrev pub old_pairs : ReachSide → ReachCell → List Pair
old_pairs before cell = old_pair (pair_at before cell)

-- the pair of a cell after, unless the table before has it
abbrev pub pair_unless : Pair → Option Reach → List Pair
pair_unless pair None = pair ∷ []
pair_unless pair (Some reach) = []

abbrev pub new_pair : ReachSide → Option Pair → List Pair
new_pair before None = []
new_pair before (Some pair) = pair_unless pair (reach_of before pair)

abbrev pub new_pairs : ReachSide → ReachSide → ReachCell → List Pair
new_pairs before after cell = new_pair before (pair_at after cell)

-- the pairs of the table before, and then those that only the table after has
abbrev pub compared_pairs : ReachSide → ReachSide → List Pair
compared_pairs before after = flat_map (old_pairs before) before.cells.now ++ flat_map (new_pairs before after) after.cells.now

-- ---- the rows

-- a row has its pair, what both tables have of it, and the labels that are gained and lost
pub record IsRow (before after : ReachSide) (pair : Pair) (gains losses : MovedLabels) (row : ReachChange) : Type 0 where
  pub client : row.client.now ≡ pair.client
  pub service : row.service.now ≡ pair.service
  pub server : row.server.now ≡ pair.server
  pub reach_was : option_copied row.was ≡ reach_of before pair
  pub reach_now : option_copied row.now ≡ reach_of after pair
  pub gained : row.gained ≡ gains
  pub lost : row.lost ≡ losses

-- whether a label is gained or lost
abbrev pub moves_some : MovedLabels → MovedLabels → Bool
moves_some gained lost = is_some gained.set.witness || is_some lost.set.witness

-- a pair has a row exactly if a label is gained or lost
abbrev pub IsRowIf : Bool → ReachSide → ReachSide → Pair → MovedLabels → MovedLabels → Option ReachChange → Type 0
IsRowIf false before after pair gained lost row = row ≡ None
IsRowIf true before after pair gained lost row = (change : ReachChange) × (row ≡ Some change) × IsRow before after pair gained lost change

-- the row of a pair with these labels that are gained and lost, if there are some
abbrev pub IsRowOf : ReachSide → ReachSide → Pair → MovedLabels → MovedLabels → Option ReachChange → Type 0
IsRowOf before after pair gained lost row = IsRowIf (moves_some gained lost) before after pair gained lost row

-- labels of a pair are exactly those whose routes on both lists pass a test of the server's numbers, with a shortest one
abbrev pub IsMovedSet : ReachSide → ReachSide → (Option ℕ → Option ℕ → RoutedLabel → Bool) → Pair → MovedLabels → Type 0
IsMovedSet before after test pair moved =
    IsSetBy (routes before.list.now pair.client.path pair.service) (routes after.list.now pair.client.path pair.service)
    (test (place_of before.list.now pair.server.path) (place_of after.list.now pair.server.path)) moved.set

-- the row of a pair shows exactly which labels its server gains and which ones it loses, and how both lists route the witnesses
pub record Shows (before after : ReachSide) (pair : Pair) (row : Option ReachChange) : Type 0 where
  pub gained : MovedLabels
  pub lost : MovedLabels
  pub gains : IsMovedSet before after is_gained pair gained
  pub gained_routes : AreMoved before.list.now after.list.now pair gained
  pub loses : IsMovedSet before after is_lost pair lost
  pub lost_routes : AreMoved before.list.now after.list.now pair lost
  pub is : IsRowOf before after pair gained lost row

-- each pair has its row, if it has one, in order, and there are no others
abbrev pub HasRows : ReachSide → ReachSide → List Pair → List ReachChange → Type 0
HasRows before after [] rows = rows ≡ []
HasRows before after (pair ∷ pairs) rows =
    (row : Option ReachChange) × (others : List ReachChange) × (rows ≡ option_to_list row ++ others) × Shows before after pair row
    × HasRows before after pairs others

abbrev pub AreReachChanges : ReachSide → ReachSide → List ReachChange → Type 0
AreReachChanges before after rows = HasRows before after (compared_pairs before after) rows
