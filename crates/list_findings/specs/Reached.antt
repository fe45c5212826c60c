-- To which entries the requests of scripts are routed, with some given label.
use Rattle.std.specs.Prelude.{ℕ, ◌==◌, ◌&&◌, Bool, false, true, Option, Some, None}
use Rattle.std.specs.List.{list_any}
use Rattle.own_model.specs.Listed.{Listed}
use Rattle.list_reach.specs.Deciding.{for_some_label}
use Rattle.list_labels.specs.GivenLabels.{leads_to}
use Rattle.list_findings.specs.Views.{Asking, askings}

-- a child is the one that is looked for, or any child if none is named
abbrev pub is_sought : Option ℕ → Option ℕ → Bool
is_sought sought None = false
is_sought None (Some led) = true
is_sought (Some child) (Some led) = led == child

-- some request is routed to a child that is looked for
unfoldable pub reaches : Listed → Option ℕ → Asking → Bool
reaches list sought asking = for_some_label (λ label. is_sought sought (leads_to list asking.client asking.service label))

-- some script's does
abbrev pub is_routed_to : Listed → ℕ → Bool
is_routed_to list child = list_any (reaches list (Some child)) (askings list)

-- some request of a client, by its number, is routed to a server
abbrev pub is_routed_at_all : Listed → ℕ → Bool
is_routed_at_all list client = list_any (λ asking. asking.client == client && reaches list None asking) (askings list)
