-- The decisions on the witnesses of classes, the shorter ones first.
use Rattle.std.specs.Prelude.{◌≡◌, ℕ, ◌<◌, List, length, slice_index_or, All, Any}
use Rattle.own_model.specs.Listed.{Listed}
use Rattle.list_classes.specs.declared.label_class.LabelClass.{LabelClass}
use Rattle.list_reach.specs.Deciding.{HasDecision, IsDecision, DecisionAt}

-- the decisions on all witnesses of fewer bytes are there, and those on the first ones of so many bytes
pub record AreSeen (list : Listed) (client : ℕ) (service : List ℕ) (classes : List LabelClass) (size bound : ℕ) (trails : List DecisionAt) : Type 0 where
  pub told : All (IsDecision list client service) trails
  pub shorter : (k : ℕ) (d : LabelClass) → k < length classes → length (slice_index_or classes k d).witness < size
      → Any (HasDecision list client service (slice_index_or classes k d).witness) trails
  pub before : (k : ℕ) (d : LabelClass) → k < bound → length (slice_index_or classes k d).witness ≡ size
      → Any (HasDecision list client service (slice_index_or classes k d).witness) trails
