-- The line at the place, or none.
use Rattle.std.proofs.lemmas.Bool.Decides.{nat_tests}
use Rattle.std.proofs.lemmas.Option.{slice_get_past, slice_get_read}
use Rattle.std.proofs.Common.{arith, ◌≡◌, None, refl, sym, ap}
use Rattle.std.specs.List.{slice_get}
use Rattle.budget_search.specs.SessionLines.{is_skipped}
use Rattle.budget_search.proofs.session_trial.is_left_out.Goals as goal

pub returns-in-Some : goal.returns-in-Some
returns-in-Some c =
    ap is_skipped (sym (slice_get_read c.args.steps.now _ c.args.place c.in-Some.step.now refl c.in-Some.ensures.lookup.3.0 c.in-Some.ensures.lookup.1))

pub returns-in-None : goal.returns-in-None
returns-in-None c =
    let none : slice_get c.args.steps.now c.args.place ≡ None = grind (arith, nat_tests, slice_get_past, c.in-None.ensures.lookup) in
    ap is_skipped (sym none)
