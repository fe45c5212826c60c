-- Labels that no rule separates.
use Rattle.std.specs.Prelude.{◌≡◌, ℕ, ◌<◌, ◌≤◌, false, true, List, length, nat_eq, Contains}
use Rattle.std.specs.List.{starts_with, ends_with}
use Rattle.own_model.specs.Listed.{Listed}
use Rattle.list_labels.specs.Asked.{asked_of, known}
use Rattle.list_labels.specs.DecidingRules.{decision_of}
use Rattle.list_labels.specs.GivenLabels.{IsGiven, leads_to}
use Rattle.list_labels.specs.LabelRanges.{AskedLabel, fits}

-- requests with two labels are routed to the same entry, by the same rules
pub record IsAlike (list : Listed) (client : ℕ) (service label other : List ℕ) : Type 0 where
  pub leads : leads_to list client service label ≡ leads_to list client service other
  pub decided : decision_of list client service label ≡ decision_of list client service other

-- both texts of a condition are no longer than a front and an end
pub record IsUpTo (front end : List ℕ) (asked : AskedLabel) : Type 0 where
  pub front_short : length asked.front ≤ length front
  pub end_short : length asked.end ≤ length end

-- a label that no rule knows by itself has a front and an end, and no longer ones that the rules ask for
pub record IsOfTexts (list : Listed) (client : ℕ) (service front end label : List ℕ) : Type 0 where
  pub given : IsGiven label
  pub some : 0 < length label
  pub unknown : known list client service label ≡ false
  pub begins : starts_with nat_eq label front ≡ true
  pub closes : ends_with nat_eq label end ≡ true
  pub longest : (asked : AskedLabel) → Contains (asked_of list client service) asked
      → fits label asked ≡ true → IsUpTo front end asked
