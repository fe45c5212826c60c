-- The steps to an entry through one list and those around it.
use Rattle.std.proofs.Common.{◌≡◌, ℕ, zero, suc, ◌-◌, ◌<◌, List, [], ◌∷◌, ◌++◌, Some, None, refl, sym, ap, ◌∙◌, arith}
use Rattle.std.specs.List.{slice_get}
use Rattle.own_model.specs.Listed.{ListedEntry}
use Rattle.list_parts.specs.Steps.{place_in, step_to, steps_above, steps_at, steps_within}
use Rattle.list_parts.specs.declared.list_part.EntryStep.{EntryStep}

abbrev step_of : ℕ → List ℕ → EntryStep
step_of place name = record { place = place; name = Some name }

fewer : (n : ℕ) → suc n - 1 ≡ n
fewer n = omega arith

steps_one : (lists : ℕ) (entries : List ListedEntry) (number : ℕ) → 0 < lists →
    steps_within lists entries number ≡ steps_at (steps_within (lists - 1) entries) entries number (slice_get entries number)
steps_one zero entries number some = absurd (omega arith)
steps_one (suc lists) entries number some = rw (fewer lists) refl

above_one : (steps : ℕ → List EntryStep) (home : ℕ) → 0 < home → steps_above steps home ≡ steps (home - 1)
above_one steps zero some = absurd (omega arith)
above_one steps (suc number) some = rw (fewer number) refl

above_none : (steps : ℕ → List EntryStep) (home : ℕ) → home ≡ 0 → steps_above steps home ≡ []
above_none steps zero is = refl
above_none steps (suc number) is = absurd (omega arith)

-- there is no such entry
pub steps_to_none : (lists : ℕ) (entries : List ListedEntry) (number : ℕ) → slice_get entries number ≡ None → [] ≡ steps_within lists entries number
steps_to_none zero entries number is = refl
steps_to_none (suc lists) entries number is = sym (ap (steps_at (steps_within lists entries) entries number) is)

-- an entry of the machine's list
pub steps_of_machine : (lists : ℕ) (entries : List ListedEntry) (number : ℕ) (entry : ListedEntry) → 0 < lists → slice_get entries number ≡ Some entry → entry.home ≡ 0
    → [] ++ step_to entries number entry ∷ [] ≡ steps_within lists entries number
steps_of_machine lists entries number entry some is machine =
    sym (steps_one lists entries number some ∙ ap (steps_at (steps_within (lists - 1) entries) entries number) is
    ∙ ap (λ above. above ++ step_to entries number entry ∷ []) (above_none (steps_within (lists - 1) entries) entry.home machine))

-- an entry of an init's
pub steps_of_init : (lists : ℕ) (entries : List ListedEntry) (number : ℕ) (entry : ListedEntry) → 0 < lists → slice_get entries number ≡ Some entry → 0 < entry.home
    → steps_within (lists - 1) entries (entry.home - 1) ++ step_to entries number entry ∷ [] ≡ steps_within lists entries number
steps_of_init lists entries number entry some is inner =
    sym (steps_one lists entries number some ∙ ap (steps_at (steps_within (lists - 1) entries) entries number) is
    ∙ ap (λ above. above ++ step_to entries number entry ∷ []) (above_one (steps_within (lists - 1) entries) entry.home inner))

-- the step that was put together is the one to the entry
step_is : (entries : List ListedEntry) (number : ℕ) (entry : ListedEntry) (home place : ℕ) (name : List ℕ)
    → home ≡ entry.home → place ≡ place_in entries home number → name ≡ entry.name
    → step_of place name ≡ step_to entries number entry
step_is entries number entry home place name home_is place_is name_is =
    ap (λ p. step_of p name) (place_is ∙ ap (λ h. place_in entries h number) home_is) ∙ ap (step_of (place_in entries entry.home number)) name_is

-- behind those above it
pub steps_then : (entries : List ListedEntry) (number : ℕ) (entry : ListedEntry) (home place : ℕ) (name : List ℕ) (above new : List EntryStep)
    → home ≡ entry.home → place ≡ place_in entries home number → name ≡ entry.name → new ≡ above ++ step_of place name ∷ []
    → new ≡ above ++ step_to entries number entry ∷ []
steps_then entries number entry home place name above new home_is place_is name_is new_is =
    new_is ∙ ap (λ step. above ++ step ∷ []) (step_is entries number entry home place name home_is place_is name_is)
