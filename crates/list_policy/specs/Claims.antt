-- What the text of a breach claims.
use Rattle.std.specs.Prelude.{ℕ, ◌&&◌, Bool, false, List, length, nat_lt, Option, Some, None}
use Rattle.own_model.specs.Listed.{Listed}
use Rattle.list_policy.specs.Demand.{leads_there, service_at}
use Rattle.list_policy.specs.declared.breach.Breach.{Breach}
use Rattle.list_policy.specs.declared.breach.Breach.TheVariants as breach

-- a label, if there is one, is routed from a client to a server
abbrev pub routes_there : Listed → ℕ → ℕ → Option (List ℕ) → Bool
routes_there list client server None = false
routes_there list client server (Some label) =
    nat_lt client (length list.entries) && leads_there list client (service_at list server) label server

-- a breach is a client that reaches a server: its label is routed there
abbrev pub claims_reach : Listed → Breach → Bool
claims_reach list (breach.Reach found) = routes_there list found.client found.server found.label
claims_reach list (breach.Excess number) = false
