-- Ranges of labels, by how a label begins and ends.
use Rattle.std.specs.Prelude.{◌≡◌, ℕ, Bool, true, ◌&&◌, List, nat_eq}
use Rattle.std.specs.List.{starts_with, ends_with}
use Rattle.list_labels.specs.GivenLabels.{IsGiven}

-- how a label has to begin and to end
pub record AskedLabel : Type 0 where
  pub front : List ℕ
  pub end : List ℕ

-- a label begins and ends so
abbrev pub fits : List ℕ → AskedLabel → Bool
fits label asked = starts_with nat_eq label asked.front && ends_with nat_eq label asked.end

-- a label of a range can be given
pub record IsInRange (range : AskedLabel) (label : List ℕ) : Type 0 where
  pub given : IsGiven label
  pub inside : fits label range ≡ true
