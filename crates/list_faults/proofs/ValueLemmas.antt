-- The entries of lists, as they stand in a text.
use Rattle.std.proofs.Common.{◌≡◌, ℕ, zero, suc, ◌+◌, ◌-◌, ◌<◌, true, false, List, [], ◌∷◌, ◌++◌, drop, flat_map, get_or, length, map, codes, Option, Some, refl, sym, ap, ◌∙◌, arith}
use Rattle.std.specs.List.{enumerate_from}
use Rattle.std.specs.Option.{option_and_then}
use Rattle.std.proofs.lemmas.List.{append_assoc, drop_more, get_or-map, length-map}
use Rattle.serde_json.specs.Data.{Data}
use Rattle.serde_json.specs.Find.{as_array, get}
use Rattle.serde_json.specs.View.{items_view, view}
use Rattle.serde_json.specs.declared.value.Value.{Value}
use Rattle.list_parser.proofs.MemberLemmas.{elements_of_items}
use Rattle.list_faults.specs.Values.{EntryValue, elements_in, found_at, found_within, runs, starts_in, step_down, with_own}
use Rattle.list_parts.specs.declared.list_part.EntryStep.{EntryStep}

-- the elements of a list that is there
pub elements_there : (d : Option Data) (values : List Value) → Some (items_view values) ≡ option_and_then as_array d → map view values ≡ elements_in d
elements_there d values is = rw (← is, elements_of_items (map view values)) refl

-- what is left from a place on, of values as they are seen
pub left_from : {X A : Type 0} (v : X → A) (xs : List X) (i : ℕ) (x : X) → i < length xs → x ≡ get_or xs i x
    → drop i (map v xs) ≡ v x ∷ drop (i + 1) (map v xs)
left_from v xs i x inside is =
    let seen_inside : i < length (map v xs) = omega (arith, length-map xs v) in
    drop_more (map v xs) i (v x) seen_inside ∙ ap (λ y. y ∷ drop (i + 1) (map v xs)) (get_or-map v xs i x (v x) inside ∙ ap v (sym is))

-- one more of what is told place by place, of values as they are seen
pub place_more : {X A B : Type 0} (v : X → A) (f : ℕ × A → List B) (told now : List B) (xs : List X) (i : ℕ) (x : X) → i < length xs → x ≡ get_or xs i x
    → now ≡ told ++ f (i, v x) → now ++ flat_map f (enumerate_from (i + 1) (drop (i + 1) (map v xs))) ≡ told ++ flat_map f (enumerate_from i (drop i (map v xs)))
place_more v f told now xs i x inside is more =
    ap (λ n. n ++ flat_map f (enumerate_from (i + 1) (drop (i + 1) (map v xs)))) more
    ∙ append_assoc told (f (i, v x)) (flat_map f (enumerate_from (i + 1) (drop (i + 1) (map v xs))))
    ∙ ap (λ rest. told ++ flat_map f (enumerate_from i rest))
    (sym (left_from v xs i x inside is))

less : (n : ℕ) → n ≡ suc n - 1
less n = omega arith

-- an init with those that it starts
pub own_more : (deeper : ℕ) (above : List EntryStep) (place : ℕ) (d : Data) (before now after : List EntryValue) (steps : List EntryStep) (config : Option Data)
    → 0 < deeper → true ≡ runs (codes "init") d → steps ≡ step_down above (place, d) → config ≡ get (codes "config") d
    → now ≡ before ++ found_at above (place, d) ∷ [] → after ≡ now ++ found_within (deeper - 1) steps (starts_in config)
    → after ≡ before ++ with_own deeper above (place, d)
own_more zero above place d before now after steps config some init steps_is config_is now_is after_is = absurd (omega (arith, some))
own_more (suc deeper) above place d before now after steps config some init steps_is config_is now_is after_is =
    after_is
    ∙ ap (λ s. now ++ found_within (suc deeper - 1) s (starts_in config)) steps_is
    ∙ ap (λ c. now ++ found_within (suc deeper - 1) (step_down above (place, d)) (starts_in c)) config_is
    ∙ ap (λ n. n ++ found_within (suc deeper - 1) (step_down above (place, d)) (starts_in (get (codes "config") d))) now_is
    ∙ append_assoc before (found_at above (place, d) ∷ []) _
    ∙ ap (λ n. before ++ found_at above (place, d) ∷ found_within n (step_down above (place, d)) (starts_in (get (codes "config") d))) (sym (less deeper))
    ∙ ap (λ own. before ++ found_at above (place, d) ∷ own) (rw (← init) refl)

-- another entry, or an init where none may be
pub own_none : (deeper : ℕ) (above : List EntryStep) (place : ℕ) (d : Data) (before now : List EntryValue) → deeper ≡ 0
    → now ≡ before ++ found_at above (place, d) ∷ [] → now ≡ before ++ with_own deeper above (place, d)
own_none zero above place d before now none is = is
own_none (suc deeper) above place d before now none is = absurd (omega (arith, none))

pub own_other : (deeper : ℕ) (above : List EntryStep) (place : ℕ) (d : Data) (before now : List EntryValue) → false ≡ runs (codes "init") d
    → now ≡ before ++ found_at above (place, d) ∷ [] → now ≡ before ++ with_own deeper above (place, d)
own_other zero above place d before now none is = is
own_other (suc deeper) above place d before now none is = is ∙ ap (λ own. before ++ found_at above (place, d) ∷ own) (rw (← none) refl)
