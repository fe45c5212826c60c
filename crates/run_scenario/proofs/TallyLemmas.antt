-- The errors of lines in their steps, one after another.
use Rattle.std.proofs.Common.{◌≡◌, ℕ, ◌+◌, ◌≤◌, Bool, true, false, List, [], ◌∷◌, ◌++◌, length, is_some, Option, arith, refl, sym, ◌∙◌, ap}
use Rattle.std.specs.Int.{from_bool}
use Rattle.own_model.specs.Listed.{Listed}
use Rattle.own_model.specs.World.{World}
use Rattle.run_lines.specs.Answered.{after_all}
use Rattle.run_lines.proofs.ToldLemmas.{left_by_both, left_none}
use Rattle.run_scenario.specs.Judging.{Awaited, awaited_after, awaited_behind, errors_in, errors_of, has_error}
use Rattle.run_scenario.specs.LineSteps.{LineStep, calls_in}
use Rattle.run_scenario.specs.RunCalls.{calls_of_steps}
use Rattle.run_scenario.specs.ScenarioRuns.{CountsErrors, CountsOne, Tallies, Tally, most_lines, tally}

-- what is expected behind steps, and then others
awaited_behind-append : (awaited : Awaited) (xs ys : List LineStep) → awaited_behind awaited (xs ++ ys) ≡ awaited_behind (awaited_behind awaited xs) ys
awaited_behind-append awaited [] ys = refl
awaited_behind-append awaited (x ∷ xs) ys = awaited_behind-append (awaited_after x.number x.resolved awaited) xs ys

one_at_most : (error : Bool) → from_bool error ≤ 1
one_at_most true = omega arith
one_at_most false = omega arith

module _ (list : Listed) (only : Option (List ℕ)) where
  -- the errors of steps, and then of others
  errors_in-append : (world : World) (awaited : Awaited) (xs ys : List LineStep) →
      errors_in list only world awaited (xs ++ ys)
      ≡ errors_in list only world awaited xs + errors_in list only (after_all only world (calls_of_steps xs)) (awaited_behind awaited xs) ys
  errors_in-append world awaited [] ys =
      let same : errors_in list only world awaited ys ≡ errors_in list only (after_all only world (calls_of_steps [])) (awaited_behind awaited []) ys =
      ap (λ w. errors_in list only w awaited ys) (sym (left_none only world)) in
      omega (arith, same)
  errors_in-append world awaited (x ∷ xs) ys =
      let left = after_all only world (calls_in x.resolved) in
      let next = awaited_after x.number x.resolved awaited in
      let both : after_all only left (calls_of_steps xs) ≡ after_all only world (calls_of_steps (x ∷ xs)) =
      left_by_both only world left _ (calls_in x.resolved) (calls_of_steps xs) refl refl in
      omega (arith, errors_in-append left next xs ys, ap (λ w. errors_in list only w (awaited_behind next xs) ys) both)

  -- a line has one error at most
  pub few_errors : (world : World) (awaited : Awaited) (steps : List LineStep) → errors_in list only world awaited steps ≤ length steps
  few_errors world awaited [] = omega arith
  few_errors world awaited (step ∷ steps) =
      omega (
        arith,
        one_at_most (has_error list only world step.meant step.resolved awaited),
        few_errors (after_all only world (calls_in step.resolved)) (awaited_after step.number step.resolved awaited) steps,
      )

  -- one step more
  pub tallies_more : (start mid : World) (old now next : Tally) (steps : List LineStep) (step : LineStep) (error : Bool) → mid ≡ after_all only start (calls_of_steps steps) →
      Tallies list only start old now steps → error ≡ has_error list only mid step.meant step.resolved now.awaited → next.awaited ≡ awaited_after step.number step.resolved now.awaited →
      CountsOne error now.errors next.errors → Tallies list only start old next (steps ++ step ∷ [])
  tallies_more start mid old now next steps step error left led judged awaits counts = record {
    awaits = awaits ∙ ap (awaited_after step.number step.resolved) led.awaits ∙ sym (awaited_behind-append old.awaited steps (step ∷ []));
    counts = λ fits.
        let one : from_bool error ≡ from_bool (has_error list only (after_all only start (calls_of_steps steps)) step.meant step.resolved (awaited_behind old.awaited steps)) =
        ap from_bool (judged ∙ (λ i. has_error list only (left i) step.meant step.resolved (led.awaits i))) in
        let more : errors_in list only start old.awaited (steps ++ step ∷ []) ≡ errors_in list only start old.awaited steps + from_bool error =
        omega (arith, errors_in-append start old.awaited steps (step ∷ []), one) in
        let before : now.errors ≡ old.errors + errors_in list only start old.awaited steps = led.counts (omega (arith, more, fits)) in
        omega (arith, more, before, counts (omega (arith, more, before, fits)));
  }

  -- at first there is none
  pub tallies_none : (start : World) (old : Tally) → Tallies list only start old old []
  tallies_none start old = record { awaits = refl; counts = λ fits. omega arith }

  -- behind the last line one may be left over
  pub errors_counted : (start : World) (old now : Tally) (steps : List LineStep) (errors : ℕ) → Tallies list only start old now steps → CountsOne (is_some now.awaited.first) now.errors errors →
      CountsErrors list only start old errors steps
  errors_counted start old now steps errors led counts = λ fits.
      let last : from_bool (is_some now.awaited.first) ≡ from_bool (is_some (awaited_behind old.awaited steps).first) = ap (λ (a : Awaited). from_bool (is_some a.first)) led.awaits in
      let before : now.errors ≡ old.errors + errors_in list only start old.awaited steps = led.counts (omega (arith, fits)) in
      omega (arith, last, before, counts (omega (arith, last, before, fits)))

  -- and no count stops at its bound
  pub errors_exact : (start : World) (awaited : Awaited) (steps : List LineStep) (errors : ℕ) → length steps ≤ most_lines → CountsErrors list only start (tally 0 awaited) errors steps →
      errors ≡ errors_of list only start awaited steps
  errors_exact start awaited steps errors few counts =
      let some : errors_in list only start awaited steps ≤ length steps = few_errors start awaited steps in
      let last : from_bool (is_some (awaited_behind awaited steps).first) ≤ 1 = one_at_most (is_some (awaited_behind awaited steps).first) in
      omega (arith, counts (omega (arith, few, some, last)))
