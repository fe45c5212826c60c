-- The tests that remain are those that the filters select.
use Rattle.std.proofs.Common.{◌≡◌, ◌∙◌, ◌++◌, arith, inl, inr, length, map, List, subst, sym}
use Rattle.std.proofs.lemmas.Bool.Decides.{nat_tests}
use Rattle.std.proofs.lemmas.List.{nil_from_length}
use Rattle.std.proofs.lemmas.Result.{err_from_is_err_and}
use Rattle.cli_base.specs.Given.{HasUnread}
use Rattle.cli_tests.specs.Outcome.{LacksPath, LacksTests, given_paths}
use Rattle.cli_tests.specs.Plan.{path_of}
use Rattle.cli_tests.specs.declared.planned_test.PlannedTest.{PlannedTest}
use Rattle.cli_tests.proofs.PlanLemmas.{no_room}
use Rattle.cli_tests.proofs.test.tests_at.Goals as goal

pub returns-in_err-files-clause-failed : goal.returns-in_err-files-clause-failed
returns-in_err-files-clause-failed g c =
    let p = err_from_is_err_and c.from_residual.result c.from_residual.ensures.1 in
    rw (p.1, p.2)
    (λ room. inl (subst (λ paths. LacksPath (g.H.Host.text_at c.args.host.now) paths) c.as_slice.ensures.value (c.in_err-files.ensures.failed room)))

pub returns-in_err-tests-clause-failed : goal.returns-in_err-tests-clause-failed
returns-in_err-tests-clause-failed g c =
    no_room (LacksTests (g.H.Host.text_at c.args.host.now) c.args.asked.now c.args.given.now) c.from_residual-in_err-tests.result
    c.from_residual-in_err-tests.ensures.1

pub returns-then-is_empty-clause-failed : goal.returns-then-is_empty-clause-failed
returns-then-is_empty-clause-failed g c = λ room.
    let none : length c.select_tests.new.tests.items ≡ 0 = grind (arith, nat_tests, c.is_empty.ensures, c.if-is_empty.true) in
    inr (inr (inl (
      c.in_ok-tests.tests.items,
      (c.in_ok-files.files.items, rw c.as_slice.ensures.value at c.in_ok-files.ensures.found, c.in_ok-tests.ensures),
      sym (nil_from_length _ none) ∙ (rw c.as_slice-4.ensures.value at c.select_tests.ensures),
    )))

pub returns-in_err-check_names-clause-failed : goal.returns-in_err-check_names-clause-failed
returns-in_err-check_names-clause-failed g c =
    let p = err_from_is_err_and c.from_residual-in_err-check_names.result c.from_residual-in_err-check_names.ensures.1 in
    rw (p.1, p.2)
    (λ room. inr (inr (inr (
      c.select_tests.new.tests.items,
      (
        c.in_ok-tests.tests.items,
        (c.in_ok-files.files.items, rw c.as_slice.ensures.value at c.in_ok-files.ensures.found, c.in_ok-tests.ensures),
        rw c.as_slice-4.ensures.value at c.select_tests.ensures,
      ),
      subst
          (λ (tests : List PlannedTest). HasUnread (g.H.Host.text_at c.args.host.now) (given_paths c.args.asked.now.machine ++ map path_of tests) c.args.given.now)
          c.as_slice-5.ensures.value (c.in_err-check_names.ensures room),
    ))))

pub returns-clause-selected : goal.returns-clause-selected
returns-clause-selected g c = (
  c.in_ok-tests.tests.items,
  (c.in_ok-files.files.items, rw c.as_slice.ensures.value at c.in_ok-files.ensures.found, c.in_ok-tests.ensures),
  rw c.as_slice-4.ensures.value at c.select_tests.ensures,
)

pub returns-clause-some : goal.returns-clause-some
returns-clause-some g c = grind (arith, nat_tests, c.is_empty.ensures, c.if-is_empty.false)
