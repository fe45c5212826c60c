-- Labels that a client can give, and the entries to which requests with these labels are routed.
use Rattle.std.specs.Prelude.{◌≡◌, ℕ, ◌≤◌, true, List, length, Option}
use Rattle.std.specs.List.{list_all}
use Rattle.own_model.specs.SessionArgs.{is_quotable}
use Rattle.own_model.specs.Listed.{Listed, route_of}

-- a label that the arguments of a session let through
pub record IsGiven (label : List ℕ) : Type 0 where
  pub short : length label ≤ 64
  pub plain : list_all is_quotable label ≡ true

-- the entry to which a client's request for a service with a label is routed, or none
unfoldable pub leads_to : Listed → ℕ → List ℕ → List ℕ → Option ℕ
leads_to list client service label = route_of list client service label
