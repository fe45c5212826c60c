-- Which rules decide a client's requests for a service, list by list outward, for every given label.
use Rattle.std.specs.Prelude.{◌≡◌, ℕ, ◌≤◌, ◌&&◌, ◌||◌, zero, suc, Bool, false, List, [], ◌∷◌, length, nat_le, Option, All, Any}
use Rattle.std.specs.Str.{bytes_eq}
use Rattle.own_model.specs.Listed.{Listed}
use Rattle.own_model.specs.SessionArgs.{is_quotable}
use Rattle.list_labels.specs.DecidingRules.{decision_of}
use Rattle.list_labels.specs.GivenLabels.{IsGiven, leads_to}

-- a label, the rules that decide its request, and the entry to which they route it
pub record DecisionAt : Type 0 where
  pub label : List ℕ
  pub rules : List ℕ
  pub child : Option ℕ

-- a decision's label is given, and its request is decided so
pub record IsDecision (list : Listed) (client : ℕ) (service : List ℕ) (trail : DecisionAt) : Type 0 where
  pub given : IsGiven trail.label
  pub decides : trail.rules ≡ decision_of list client service trail.label
  pub leads : trail.child ≡ leads_to list client service trail.label

-- a label's request is decided as that of a decision, whose label is no longer
pub record HasDecision (list : Listed) (client : ℕ) (service label : List ℕ) (trail : DecisionAt) : Type 0 where
  pub short : length trail.label ≤ length label
  pub decides : trail.rules ≡ decision_of list client service label
  pub leads : trail.child ≡ leads_to list client service label

-- decisions show how the requests with all given labels are decided
pub record AreDecisions (list : Listed) (client : ℕ) (service : List ℕ) (trails : List DecisionAt) : Type 0 where
  pub told : All (IsDecision list client service) trails
  pub covers : (label : List ℕ) → IsGiven label → Any (HasDecision list client service label) trails

-- a decision is by these rules, with a label that is no longer
abbrev pub is_same : List ℕ → List ℕ → DecisionAt → Bool
is_same label rules trail = bytes_eq trail.rules rules && nat_le (length trail.label) (length label)

-- the decision on a label is kept, after those that were kept
pub record KeepsDecision (list : Listed) (client : ℕ) (service label : List ℕ) (old new : List DecisionAt) : Type 0 where
  pub told : All (IsDecision list client service) new
  pub stays : (other : List ℕ) → Any (HasDecision list client service other) old → Any (HasDecision list client service other) new
  pub there : Any (HasDecision list client service label) new

-- ---- whether something holds of some given label

-- it holds of some byte below a bound that a label can have
abbrev pub some_byte : ℕ → (ℕ → Bool) → Bool
some_byte zero holds = false
some_byte (suc byte) holds = (is_quotable byte && holds byte) || some_byte byte holds

-- it holds of some label of at most so many of these bytes
abbrev pub some_label : ℕ → (List ℕ → Bool) → Bool
some_label zero holds = holds []
some_label (suc most) holds = holds [] || some_byte 127 (λ byte. some_label most (λ label. holds (byte ∷ label)))

unfoldable pub for_some_label : (List ℕ → Bool) → Bool
for_some_label holds = some_label 64 holds
