-- Labels as two start lists route their requests.
use Rattle.std.specs.Prelude.{◌≡◌, ℕ, ◌==◌, ◌&&◌, not, Bool, true, false, List, length, Option, Some, None}
use Rattle.std.specs.Option.{option_map}
use Rattle.list_labels.specs.GivenLabels.{leads_to}
use Rattle.list_reach.specs.Shortest.{IsShortest}
use Rattle.list_reach.specs.declared.comparison.LabelMove.{LabelMove}
use Rattle.list_classes.specs.declared.label_class.LabelClass.{LabelClass}
use Rattle.list_labels.specs.declared.session_requests.SessionRequests.{SessionRequests}

-- the entry to which requests with a label are routed, if the client is there
abbrev pub routed_on : Option SessionRequests → List ℕ → Option ℕ
routed_on None label = None
routed_on (Some wishes) label = leads_to wishes.list.now wishes.client wishes.service.now label

-- a label, with the entries to which requests with it are routed on both lists
pub record RoutedLabel : Type 0 where
  pub label : List ℕ
  pub before : Option ℕ
  pub after : Option ℕ

-- a label as both lists route it
abbrev pub routes_of : (List ℕ → Option ℕ) → (List ℕ → Option ℕ) → List ℕ → RoutedLabel
routes_of before after label = record { label = label; before = before label; after = after label }

abbrev pub class_routes : (List ℕ → Option ℕ) → (List ℕ → Option ℕ) → LabelClass → RoutedLabel
class_routes before after class = routes_of before after class.witness

-- a request is routed to a server, if the server is there
abbrev pub is_to : Option ℕ → Option ℕ → Bool
is_to None server = false
is_to (Some child) None = false
is_to (Some child) (Some server) = child == server

-- a server gains a label: its requests are routed to the server after and not before. The server has the number `was` before and
-- the number `now` after, if the list has it.
abbrev pub is_gained : Option ℕ → Option ℕ → RoutedLabel → Bool
is_gained was now one = is_to one.after now && not (is_to one.before was)

-- a server loses a label
abbrev pub is_lost : Option ℕ → Option ℕ → RoutedLabel → Bool
is_lost was now one = is_to one.before was && not (is_to one.after now)

abbrev pub is_moved_by : Bool → Option ℕ → Option ℕ → RoutedLabel → Bool
is_moved_by true was now one = is_gained was now one
is_moved_by false was now one = is_lost was now one

abbrev pub is_moved : LabelMove → RoutedLabel → Bool
is_moved moves one = is_moved_by moves.is_gain moves.was moves.now one

abbrev pub routed_length : RoutedLabel → ℕ
routed_length one = length one.label

-- a witness is the label of a shortest one that passes; there is none just if none passes
abbrev pub IsWitness : (RoutedLabel → Bool) → List RoutedLabel → Option (List ℕ) → Type 0
IsWitness test all witness =
    (best : Option RoutedLabel) × IsShortest routed_length test all best × (witness ≡ option_map (λ one. one.label) best)
