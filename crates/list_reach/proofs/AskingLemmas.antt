-- The requests of scripts are those of entries of the list.
use Rattle.std.proofs.Common.{◌≡◌, ℕ, ◌+◌, suc, Bool, true, false, ◌&&◌, List, [], ◌∷◌, Some, map, refl, subst, arith}
use Rattle.std.specs.Prelude.{All, if◌then◌else◌}
use Rattle.std.specs.List.{enumerate_from, flat_map, slice_get}
use Rattle.std.proofs.lemmas.List.Elements.{All-append, All-map}
use Rattle.own_model.specs.Listed.{Listed, ListedEntry, services_of}
use Rattle.list_parser.specs.Depth.{runs_script}
use Rattle.list_reach.specs.ScriptDecisions.{Asking, IsAsking, askings, entry_askings}

asked_if : (list : Listed) (services : List (List ℕ)) (client : ℕ) (entry : ListedEntry) (is : Bool) → slice_get list.entries client ≡ Some entry
    → All (IsAsking list) (if is then map (λ service. record { client = client; entry = entry; service = service }) services else [])
asked_if list services client entry true there =
    All-map (IsAsking list) (λ service. record { client = client; entry = entry; service = service }) services (λ k d within. there)
asked_if list services client entry false there = λ k d within. absurd (omega (arith, within))

pub entry_askings_are : (list : Listed) (scripts : ℕ → Bool) (services : List (List ℕ)) (client : ℕ) (entry : ListedEntry)
    → slice_get list.entries client ≡ Some entry → All (IsAsking list) (entry_askings services scripts (client, entry))
entry_askings_are list scripts services client entry there =
    asked_if list services client entry (scripts client && runs_script entry.binary) there

askings_from : (list : Listed) (scripts : ℕ → Bool) (n : ℕ) (entries : List ListedEntry)
    → ((k : ℕ) (entry : ListedEntry) → slice_get entries k ≡ Some entry → slice_get list.entries (n + k) ≡ Some entry)
    → All (IsAsking list) (flat_map (entry_askings (services_of list.entries) scripts) (enumerate_from n entries))
askings_from list scripts n [] each = λ k d within. absurd (omega (arith, within))
askings_from list scripts n (first ∷ entries) each =
    let here : n + 0 ≡ n = omega arith in
    All-append (IsAsking list) (entry_askings (services_of list.entries) scripts (n, first))
    (flat_map (entry_askings (services_of list.entries) scripts) (enumerate_from (n + 1) entries))
    (entry_askings_are list scripts (services_of list.entries) n first
    (subst (λ at. slice_get list.entries at ≡ Some first) here (each 0 first refl)))
    (askings_from list scripts (n + 1) entries
    (λ k entry is. let next : n + suc k ≡ n + 1 + k = omega arith in
    subst (λ at. slice_get list.entries at ≡ Some entry) next (each (suc k) entry is)))

pub askings_are : (list : Listed) (scripts : ℕ → Bool) → All (IsAsking list) (askings list scripts)
askings_are list scripts =
    askings_from list scripts 0 list.entries
    (λ k entry is. let same : k ≡ 0 + k = omega arith in subst (λ at. slice_get list.entries at ≡ Some entry) same is)
