-- Which changes of reach have a row, for all labels.
use Rattle.std.specs.Prelude.{◌≡◌, ℕ, ◌≤◌, Bool, true, false, List, [], length, Some, Contains}
use Rattle.own_model.specs.Listed.{Listed}
use Rattle.list_labels.specs.GivenLabels.{IsGiven}
use Rattle.list_labels.specs.LabelSets.{set_has}
use Rattle.list_reach.specs.RoutedLabels.{is_to}
use Rattle.list_diff.specs.declared.moved_labels.MovedLabels.{MovedLabels}
use Rattle.list_reach.specs.declared.reach_cell.ReachCell.{ReachCell}
use Rattle.list_diff.specs.Changes.{place_of}
use Rattle.list_diff.specs.Reaches.{AreReachChanges, pair_at}
use Rattle.list_diff.specs.Routes.{Pair, routes}
use Rattle.list_diff.specs.declared.reach_changes.ReachChange.{ReachChange}
use Rattle.list_diff.specs.declared.reach_changes.ReachSide.{ReachSide}

-- a list routes a request of a pair's script with a label to the pair's server, by their paths
abbrev pub reaches : Listed → Pair → List ℕ → Bool
reaches list pair label = is_to (routes list pair.client.path pair.service label) (place_of list pair.server.path)

-- a label that can be given reaches a pair's server
pub record IsReached (list : Listed) (pair : Pair) (label : List ℕ) : Type 0 where
  pub given : IsGiven label
  pub there : reaches list pair label ≡ true

-- a table has a cell of a pair
abbrev pub HasCell : ReachSide → Pair → Type 0
HasCell side pair = (cell : ReachCell) × Contains side.cells.now cell × (pair_at side cell ≡ Some pair)

-- a row is of a pair, by its paths
pub record IsAbout (pair : Pair) (row : ReachChange) : Type 0 where
  pub client : row.client.now.path ≡ pair.client.path
  pub service : row.service.now ≡ pair.service
  pub server : row.server.now.path ≡ pair.server.path

-- one of the rows is of a pair, its set has a label, and its witness is no longer
pub record HasLabel (rows : List ReachChange) (moved : ReachChange → MovedLabels) (pair : Pair) (label : List ℕ) : Type 0 where
  pub row : ReachChange
  pub there : Contains rows row
  pub about : IsAbout pair row
  pub has : set_has (moved row).set.labels label ≡ true
  pub witness : List ℕ
  pub is : (moved row).set.witness ≡ Some witness
  pub short : length witness ≤ length label

-- a label with which a script reaches a server after, and didn't before
abbrev pub NewAccessIsReported : Type 0
NewAccessIsReported =
    (before after : ReachSide) → (rows : List ReachChange) → (pair : Pair) → (label : List ℕ) → AreReachChanges before after rows
    → HasCell after pair → reaches before.list.now pair label ≡ false → IsReached after.list.now pair label
    → HasLabel rows (λ row. row.gained) pair label

-- a label with which a script reached a server before, and doesn't after
abbrev pub LostAccessIsReported : Type 0
LostAccessIsReported =
    (before after : ReachSide) → (rows : List ReachChange) → (pair : Pair) → (label : List ℕ) → AreReachChanges before after rows
    → HasCell before pair → reaches after.list.now pair label ≡ false → IsReached before.list.now pair label
    → HasLabel rows (λ row. row.lost) pair label

-- without a row no label reaches a server on one list alone
abbrev pub NoRowsAreNoChange : Type 0
NoRowsAreNoChange =
    (before after : ReachSide) → (pair : Pair) → (label : List ℕ) → AreReachChanges before after [] → HasCell before pair → HasCell after pair
    → IsGiven label → reaches before.list.now pair label ≡ reaches after.list.now pair label
