-- Sizes, one after another.
use Rattle.std.proofs.Common.{arith, ℕ, ◌≡◌, ◌-◌, ◌&&◌, Bool, true, false, List, [], ◌∷◌, ◌++◌, length, refl, ap, ◌∙◌}
use Rattle.std.specs.Prelude.{Some}
use Rattle.std.specs.Borrow.{Bor}
use Rattle.std.specs.List.{slice_get}
use Rattle.std.specs.Option.{option_map_or}
use Rattle.std.proofs.lemmas.List.{length-append, map-append}
use Rattle.budget_least.specs.MemberValues.{Step}
use Rattle.budget_least.specs.ValueWriters.{step_of, steps_of, values_of}
use Rattle.budget_least.specs.WrittenList.{is_size_name, is_size_step, AreSizes}
use Rattle.budget_least.specs.declared.member_values.JsonStep.{JsonStep}
use Rattle.budget_least.specs.declared.member_values.JsonStep.TheVariants.{Member}
use Rattle.budget_least.specs.declared.member_values.MemberValue.{MemberValue}

at_end : (steps : List Step) (step : Step) → slice_get (steps ++ step ∷ []) (length steps) ≡ Some step
at_end [] step = refl
at_end (other ∷ steps) step = at_end steps step

at_last : (steps : List Step) (step : Step) → slice_get (steps ++ step ∷ []) (length (steps ++ step ∷ []) - 1) ≡ Some step
at_last steps step =
    let more = length-append steps (step ∷ []) in
    let last : length (steps ++ step ∷ []) - 1 ≡ length steps = omega (arith, more) in
    ap (slice_get (steps ++ step ∷ [])) last ∙ at_end steps step

and_more : (b c d : Bool) → (b && c) ≡ true → (c ≡ true → d ≡ true) → (b && d) ≡ true
and_more true c d is more = more is
and_more false c d is more = is

-- the value of one member more
pub sizes_more : (values : List MemberValue) (value : MemberValue) (object : List JsonStep) (name : Bor (List ℕ)) → value.steps.items ≡ object ++ Member name ∷ [] →
    is_size_name name.now ≡ true → AreSizes (values_of values) → AreSizes (values_of (values ++ value ∷ []))
sizes_more [] value object name is size all =
    let steps = ap steps_of is ∙ map-append step_of object (Member name ∷ []) in
    let last = ap (λ (l : List Step). option_map_or is_size_step (slice_get l (length l - 1)) false) steps
    ∙ ap (λ o. option_map_or is_size_step o false) (at_last (steps_of object) (step_of (Member name))) ∙ size in
    ap (λ b. b && true) last
sizes_more (first ∷ values) value object name is size all = and_more _ _ _ all (sizes_more values value object name is size)
