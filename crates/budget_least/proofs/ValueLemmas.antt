-- A text that is written again.
use Rattle.std.proofs.Common.{arith, ◌≡◌, ℕ, ◌-◌, ◌<◌, ◌≤◌, ◌&&◌, Bool, true, false, List, [], ◌∷◌, ◌++◌, length, take, drop, append-nil, refl, sym, ap, ◌∙◌}
use Rattle.std.specs.Prelude.{unwrap_or, if◌then◌else◌, Some, None}
use Rattle.std.specs.Option.{option_and_then, option_map_or}
use Rattle.std.specs.Str.{is_utf8, IsUtf8}
use Rattle.std.proofs.lemmas.List.{drop_all, length-map, map-append, take-map}
use Rattle.std.proofs.lemmas.Option.{slice_get-get_or}
use Rattle.std.proofs.lemmas.Str.{is_utf8-from_IsUtf8, IsUtf8-from_is_utf8}
use Rattle.serde_json.specs.Data.{Data}
use Rattle.serde_json.specs.Find.{as_str}
use Rattle.serde_json.specs.Read.{read}
use Rattle.budget_least.specs.MemberValues.{is_step, leads_to, name_in, outer, replaced, scalar_part, Around, Part}
use Rattle.budget_least.specs.ValueWriters.{around_of, arounds_of, step_of, steps_of, text_after, text_before}
use Rattle.budget_least.specs.declared.member_values.Container.{Container}
use Rattle.budget_least.specs.declared.member_values.JsonStep.{JsonStep}
use Rattle.budget_least.specs.declared.member_values.ValueWriter.{ValueWriter}

and_false : (b : Bool) → (b && false) ≡ false
and_false true = refl
and_false false = refl

-- steps that are more or fewer than the arrays and objects lead nowhere
pub leads_apart : (steps : List JsonStep) (containers : List Container) → ¬ (length steps ≡ length containers) → false ≡ leads_to (steps_of steps) (arounds_of containers)
leads_apart [] [] apart = absurd (apart refl)
leads_apart [] (container ∷ containers) apart = refl
leads_apart (step ∷ steps) [] apart = refl
leads_apart (step ∷ steps) (container ∷ containers) apart =
    sym (ap (λ b. is_step (step_of step) (around_of container) && b) (sym (leads_apart steps containers (λ same. apart (omega (arith, same))))) ∙ and_false (is_step (step_of step) (around_of container)))

-- another innermost one
pub replaced_by : (containers : List Container) (top : Container) → 0 < length containers →
    arounds_of (take (length containers - 1) containers ++ top ∷ []) ≡ replaced (arounds_of containers) (around_of top)
replaced_by containers top some =
    let n : ℕ = length (arounds_of containers) - 1 in
    let same : length (arounds_of containers) ≡ length containers = length-map containers around_of in
    let within : n < length (arounds_of containers) = omega (arith, same, some) in
    map-append around_of (take (length containers - 1) containers) (top ∷ [])
    ∙ ap (λ l. l ++ around_of top ∷ []) (sym (take-map around_of (length containers - 1) containers))
    ∙ ap (λ m. take (m - 1) (arounds_of containers) ++ around_of top ∷ []) (sym same)
    ∙ sym (ap (λ o. option_map_or (λ (old : Around). outer (arounds_of containers) ++ around_of top ∷ []) o (arounds_of containers)) (slice_get-get_or (arounds_of containers) n (around_of top) within))

-- the name that quotes contain
pub name_read : (quoted : List ℕ) (value : Data) → IsUtf8 quoted → read quoted ≡ Some value → unwrap_or (as_str value) [] ≡ name_in quoted
name_read quoted value utf8 is =
    sym (ap (λ b. unwrap_or (option_and_then as_str (if b then read quoted else None)) []) (is_utf8-from_IsUtf8 quoted utf8)
    ∙ ap (λ o. unwrap_or (option_and_then as_str o) []) is)

pub name_none : (quoted : List ℕ) → (IsUtf8 quoted → read quoted ≡ None) → [] ≡ name_in quoted
name_none quoted none = elim (is_utf8 quoted) as (λ b. is_utf8 quoted ≡ b → [] ≡ unwrap_or (option_and_then as_str (if b then read quoted else None)) []) [
  | true ↦ λ is. sym (ap (λ o. unwrap_or (option_and_then as_str o) []) (none (IsUtf8-from_is_utf8 quoted is)))
  | false ↦ λ is. refl
] refl

-- all of a text is read
pub text_end : (old new : ValueWriter) (text whole : List ℕ) (i : ℕ) → length text ≤ i → text_before old (drop i text) ≡ whole →
    ((rest : List Part) → text_after new rest ≡ text_after old (scalar_part old.scalar.items ++ rest)) → new.written.items ≡ whole
text_end old new text whole i past is ended =
    sym (append-nil new.written.items) ∙ ended [] ∙ ap (text_after old) (append-nil (scalar_part old.scalar.items))
    ∙ ap (text_before old) (sym (drop_all i text past)) ∙ is
