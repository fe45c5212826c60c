-- Routes: which server a client's session request is routed to.
use Rattle.std.specs.Prelude.{ℕ, ◌&&◌, Bool, true, List, [], ◌∷◌, ◌++◌, codes, nat_eq, if◌then◌else◌, Option, Some, None}
use Rattle.std.specs.List.{starts_with, ends_with}
use Rattle.std.specs.Str.{bytes_eq}
use Rattle.own_model.specs.Offer.{Offer}

-- a server: its kind, which is what it offers, and its place among the entries
pub record ServerAt : Type 0 where
  pub kind : Offer
  pub place : ℕ

-- where a rule leads: to a server, to none, or outward, to the list of the init above
pub data Lead : Type 0 where
  To : ServerAt → Lead
  Nowhere : Lead
  Outward : Lead

-- a rule: what it asks of the service's name and of the label, as far as it asks, and where it leads
pub record Rule : Type 0 where
  pub service : Option (List ℕ)
  pub label : Option (List ℕ)
  pub label_prefix : Option (List ℕ)
  pub label_suffix : Option (List ℕ)
  pub to : Lead

-- what is asked holds, or nothing is asked
abbrev pub as_asked : (List ℕ → Bool) → Option (List ℕ) → Bool
as_asked holds None = true
as_asked holds (Some asked) = holds asked

-- the service and the given label are as the rule asks
abbrev pub matches : Rule → List ℕ → List ℕ → Bool
matches rule service label =
    as_asked (bytes_eq service) rule.service
    && (as_asked (bytes_eq label) rule.label
    && (as_asked (starts_with nat_eq label) rule.label_prefix && as_asked (ends_with nat_eq label) rule.label_suffix))

-- the first rule that matches decides, also where it leads to none
abbrev pub decided : List Rule → List ℕ → List ℕ → Lead
decided [] service label = Nowhere
decided (rule ∷ rules) service label = if matches rule service label then rule.to else decided rules service label

-- names, and a label after them, if there is one
abbrev pub label_with : List ℕ → List ℕ → List ℕ
label_with name [] = name
label_with name (b ∷ given) = name ++ codes " -> " ++ b ∷ given

-- the rules by which a list decides for one of its own, and the name that this has there
pub record Level : Type 0 where
  pub name : List ℕ
  pub rules : List Rule

-- the server at the end of a route, if outward is that one
abbrev pub led_to : Lead → Option ServerAt → Option ServerAt
led_to (To server) outward = Some server
led_to Nowhere outward = None
led_to Outward outward = outward

-- the client's own list decides; where that leads outward, the list of its init's decides for the init, with the client's name
-- before the label, and so on. From the machine's own list there is no way outward
abbrev pub provider : List Level → List ℕ → List ℕ → Option ServerAt
provider [] service label = None
provider (level ∷ outer) service label =
    led_to (decided level.rules service label) (provider outer service (label_with level.name label))
