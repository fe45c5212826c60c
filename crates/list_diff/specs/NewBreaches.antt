-- Which breaches of a policy are reported.
use Rattle.std.specs.Prelude.{◌≡◌, true, false, List, [], Contains}
use Rattle.list_diff.specs.PlacedBreaches.{BreachAt}
use Rattle.list_diff.specs.Breaches.{ChangeAt, breach_changes, has}

-- the list after alone has a breach
abbrev pub new_one : BreachAt → ChangeAt
new_one breach = record { is_new = true; breach = breach }

-- the list before alone has it
abbrev pub old_one : BreachAt → ChangeAt
old_one breach = record { is_new = false; breach = breach }

-- a breach of the list after is reported as new exactly if the list before doesn't have it
abbrev pub NewBreachIsReported : Type 0
NewBreachIsReported =
    (before after : List BreachAt) → (breach : BreachAt) → Contains after breach → has before breach ≡ false
    → Contains (breach_changes before after) (new_one breach)

abbrev pub ReportedBreachIsNew : Type 0
ReportedBreachIsNew =
    (before after : List BreachAt) → (breach : BreachAt) → Contains (breach_changes before after) (new_one breach)
    → Contains after breach × (has before breach ≡ false)

-- a breach of the list before is reported as one that is gone exactly if the list after doesn't have it
abbrev pub GoneBreachIsReported : Type 0
GoneBreachIsReported =
    (before after : List BreachAt) → (breach : BreachAt) → Contains before breach → has after breach ≡ false
    → Contains (breach_changes before after) (old_one breach)

abbrev pub ReportedBreachIsGone : Type 0
ReportedBreachIsGone =
    (before after : List BreachAt) → (breach : BreachAt) → Contains (breach_changes before after) (old_one breach)
    → Contains before breach × (has after breach ≡ false)

-- the same breaches are no difference
abbrev pub SameBreachesAreNone : Type 0
SameBreachesAreNone = (breaches : List BreachAt) → breach_changes breaches breaches ≡ []
