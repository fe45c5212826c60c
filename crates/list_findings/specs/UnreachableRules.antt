-- Which rules earlier rules make unreachable.
use Rattle.std.specs.Prelude.{◌≡◌, ℕ, ◌&&◌, ◌||◌, Bool, true, false, List, nat_eq, not, Option, Some, None}
use Rattle.std.specs.List.{list_any, starts_with, ends_with}
use Rattle.std.specs.Str.{bytes_eq}
use Rattle.own_model.specs.Routes.{as_asked}
use Rattle.own_model.specs.Listed.{ListedRule, asks_for}
use Rattle.list_parts.specs.Texts.{has}

-- what is asked of a whole text is asked by the later rule too
abbrev pub covers : Option (List ℕ) → Option (List ℕ) → Bool
covers None later = true
covers (Some asked) later = has (bytes_eq asked) later

-- how a label has to begin is implied by what the later rule asks of it
abbrev pub covers_prefix : ListedRule → ListedRule → Bool
covers_prefix earlier later =
    as_asked
    (λ asked. has (λ label. starts_with nat_eq label asked) later.label || has (λ front. starts_with nat_eq front asked) later.label_prefix)
    earlier.label_prefix

-- so is how it has to end
abbrev pub covers_suffix : ListedRule → ListedRule → Bool
covers_suffix earlier later =
    as_asked
    (λ asked. has (λ label. ends_with nat_eq label asked) later.label || has (λ end. ends_with nat_eq end asked) later.label_suffix)
    earlier.label_suffix

-- what an earlier rule asks of the label is implied by what the later one asks
abbrev pub covers_labels : ListedRule → ListedRule → Bool
covers_labels earlier later = covers earlier.label later.label && (covers_prefix earlier later && covers_suffix earlier later)

-- an earlier rule makes a later one unreachable
abbrev pub hides : ListedRule → ListedRule → Bool
hides earlier later = covers earlier.service later.service && covers_labels earlier later

abbrev pub asks_service : ListedRule → List ℕ → Bool
asks_service rule service = as_asked (bytes_eq service) rule.service

-- one of the rules before it decides any request for a service that a rule matches
abbrev pub is_decided_before : List ListedRule → ListedRule → List ℕ → Bool
is_decided_before before rule service =
    list_any (λ earlier. asks_service earlier service && covers_labels earlier rule) before

-- a rule decides some requests for a service: it asks for the service, and no rule before it decides all of these requests
abbrev pub decides_some : List ListedRule → ListedRule → List ℕ → Bool
decides_some before rule service = asks_service rule service && not (is_decided_before before rule service)

-- an unreachable rule never decides: the earlier one matches any request that it matches
abbrev pub UnreachableNeverDecide : Type 0
UnreachableNeverDecide =
    (earlier later : ListedRule) (service label : List ℕ)
    → hides earlier later ≡ true → asks_for later service label ≡ true → asks_for earlier service label ≡ true
