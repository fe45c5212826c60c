-- Which labels of a component's requests for a service are routed to which server.
use Rattle.std.specs.Prelude.{◌≡◌, ◌≢◌, ℕ, ◌≤◌, List, length, Some}
use Rattle.own_model.specs.Listed.{Listed}
use Rattle.list_labels.specs.GivenLabels.{IsGiven, leads_to}

-- a label of a client's requests for a service is routed to a server, and no shorter one is
pub record IsShortest (list : Listed) (client : ℕ) (service : List ℕ) (server : ℕ) (label : List ℕ) : Type 0 where
  pub given : IsGiven label
  pub leads : leads_to list client service label ≡ Some server
  pub least : (other : List ℕ) → IsGiven other → leads_to list client service other ≡ Some server → length label ≤ length other

-- every given label is routed to a server
abbrev pub AllRouted : Listed → ℕ → List ℕ → ℕ → Type 0
AllRouted list client service server = (label : List ℕ) → IsGiven label → leads_to list client service label ≡ Some server

-- no given label is
abbrev pub NoneRouted : Listed → ℕ → List ℕ → ℕ → Type 0
NoneRouted list client service server = (label : List ℕ) → IsGiven label → leads_to list client service label ≢ Some server

-- some given label isn't
abbrev pub SomeNotRouted : Listed → ℕ → List ℕ → ℕ → Type 0
SomeNotRouted list client service server = (label : List ℕ) × IsGiven label × (leads_to list client service label ≢ Some server)
