-- Labels to which those are added that rules distinguish.
use Rattle.std.specs.Prelude.{◌≡◌, ℕ, ◌-◌, Bool, ◌&&◌, ◌||◌, List, length, nat_eq, nat_lt, Some}
use Rattle.std.specs.List.{list_any}
use Rattle.std.specs.Str.{bytes_eq}
use Rattle.list_labels.specs.Asked.{is_given, is_tail}

-- a label is one of these
abbrev pub is_among : List (List ℕ) → List ℕ → Bool
is_among labels label = list_any (λ other. bytes_eq other label) labels

-- a label can be given and isn't empty
abbrev pub is_filled : List ℕ → Bool
is_filled label = is_given label && nat_lt 0 (length label)

-- the new labels are the old ones and all filled labels that pass a test
abbrev pub AddsLabels : (List ℕ → Bool) → List (List ℕ) → List (List ℕ) → Type 0
AddsLabels test old new =
    (label : List ℕ) → is_among new label ≡ (is_among old label || (is_filled label && test label))

-- a label is an end of a suffix after so many bytes, and these bytes are an end of the names before the label
abbrev pub is_tail_after : List ℕ → List ℕ → ℕ → List ℕ → Bool
is_tail_after before suffix cut label = is_tail before label (Some suffix) && nat_eq (length suffix - length label) cut

-- the same for fewer bytes
abbrev pub is_tail_below : List ℕ → List ℕ → ℕ → List ℕ → Bool
is_tail_below before suffix cut label = is_tail before label (Some suffix) && nat_lt (length suffix - length label) cut
