-- The rules of a route path as text, step by step.
use Rattle.std.proofs.Common.{Bor, ◌≡◌, ℕ, ◌<◌, ◌+◌, Bool, true, false, List, [], ◌∷◌, ◌++◌, length, drop, get_or, append_assoc, append-nil, Option, Some, None, refl, sym, ap, ◌∙◌}
use Rattle.std.proofs.lemmas.List.{drop_more}
use Rattle.std.proofs.lemmas.Option.{slice_get_past, slice_get_read}
use Rattle.std.specs.List.{slice_get}
use Rattle.std.specs.Option.{option_copied}
use Rattle.std.specs.Slice.{IsItemAt}
use Rattle.own_model.specs.Listed.{Listed, ListedEntry, init_entry}
use Rattle.list_labels.specs.RouteSteps.{RouteStepAt}
use Rattle.list_reach.specs.RuleTexts.{step_text, steps_text, summary_text}
use Rattle.list_reach.specs.declared.route_path.RoutePath.{RoutePath}

-- the element that a look-up lends is the one at its place
pub looked_up : {X : Type 0} (xs : List X) (place : ℕ) (found : Option (Bor X)) → IsItemAt xs place found → option_copied found ≡ slice_get xs place
looked_up xs place None is = sym (slice_get_past xs place is.3)
looked_up xs place (Some x) is = sym (slice_get_read xs (length xs) place x.now refl is.3.0 is.1)

-- nothing is shown, and all is to be shown
pub all_steps : (course : RoutePath) (list : Listed) (asks : Option ListedEntry) (client : ℕ) (steps : List RouteStepAt) → list ≡ course.list.now
    → steps ≡ course.hops.items → client ≡ course.client → asks ≡ slice_get list.entries client → steps_text list asks true steps ≡ summary_text course
all_steps course list asks client steps list_is steps_are client_is asks_is =
    ap (λ a. steps_text list a true steps) (asks_is ∙ ap (slice_get list.entries) client_is)
    ∙ ap (λ s. steps_text list (slice_get list.entries course.client) true s) steps_are
    ∙ ap (λ (l : Listed). steps_text l (slice_get l.entries course.client) true course.hops.items) list_is

module _ (list : Listed) (asks : Option ListedEntry) (is_first : Bool) (steps : List RouteStepAt) (place : ℕ) (so_far whole : List ℕ)
    (before : so_far ++ steps_text list asks is_first (drop place steps) ≡ whole) where
  -- one step more is shown
  pub one_step : (entry : ListedEntry) (next : Option ListedEntry) (step : RouteStepAt) → asks ≡ Some entry → place < length steps
      → step ≡ get_or steps place step → next ≡ init_entry list entry.home
      → (so_far ++ step_text entry step.rule is_first) ++ steps_text list next false (drop (place + 1) steps) ≡ whole
  one_step entry next step asks_is within here next_is =
      append_assoc so_far (step_text entry step.rule is_first) (steps_text list next false (drop (place + 1) steps))
      ∙ ap (λ n. so_far ++ (step_text entry step.rule is_first ++ steps_text list n false (drop (place + 1) steps))) next_is
      ∙ ap (λ left. so_far ++ steps_text list (Some entry) is_first left)
      (sym (drop_more steps place step within ∙ ap (λ (s : RouteStepAt). s ∷ drop (place + 1) steps) (sym here)))
      ∙ ap (λ a. so_far ++ steps_text list a is_first (drop place steps)) (sym asks_is)
      ∙ before

  -- nobody is asked
  nothing_of : (left : List RouteStepAt) → steps_text list None is_first left ≡ []
  nothing_of [] = refl
  nothing_of (step ∷ left) = refl

  pub nobody : asks ≡ None → so_far ≡ whole
  nobody none =
      sym (append-nil so_far)
      ∙ ap (λ left. so_far ++ left) (sym (nothing_of (drop place steps)))
      ∙ ap (λ a. so_far ++ steps_text list a is_first (drop place steps)) (sym none)
      ∙ before
