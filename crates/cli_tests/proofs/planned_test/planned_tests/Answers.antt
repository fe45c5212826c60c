-- The tests of a file more, and of no file more.
use Rattle.std.proofs.Common.{◌≡◌, ◌∙◌, ◌∷◌, [], ap, arith, length, subst, sym}
use Rattle.std.proofs.lemmas.List.{nil_from_length}
use Rattle.std.specs.Vec.Iter.{into_iter_items}
use Rattle.cli_tests.specs.Plan.{AreAdded, IsCheckedFor, IsPolicyBeside}
use Rattle.cli_tests.proofs.PlanLemmas.{added_more, added_none}
use Rattle.cli_tests.proofs.planned_test.planned_tests.Goals as goal

pub loop-file-preserved : goal.loop-file-preserved
loop-file-preserved g c =
    let steps : into_iter_items c.loop-file.file-iterator ≡ c.in-Some.file ∷ into_iter_items c.next.new.self = c.in-Some.ensures.steps.0 in record {
      added = λ tests added. c.loop-file.invariant.added tests
          (added_more (g.H.Host.text_at c.args.host.now) c.args.asked.now c.loop-file.tests.items c.add_file.new.tests.items tests
          (into_iter_items c.loop-file.file-iterator) (into_iter_items c.next.new.self) c.in-Some.file c.in_ok-list.list c.in_ok-policy.policy steps
          (subst (λ path. IsCheckedFor (g.H.Host.text_at c.args.host.now) c.args.asked.now path c.in_ok-list.list) c.as_str.ensures.value c.in_ok-list.ensures)
          (subst (λ path. IsPolicyBeside (g.H.Host.text_at c.args.host.now) path c.in_ok-policy.policy) c.as_str-in-loop-file.ensures.value c.in_ok-policy.ensures) c.in_ok-add_file.ensures added);
      long = let was = c.loop-file.invariant.long in let gone = c.in-Some.ensures.steps.1 in let short = ap length steps in omega arith;
    }

pub returns : goal.returns
returns g c =
    c.loop-file.invariant.added c.loop-file.tests.items
    (added_none (g.H.Host.text_at c.args.host.now) c.args.asked.now c.loop-file.tests.items (into_iter_items c.loop-file.file-iterator)
    (nil_from_length _ (sym c.loop-file.invariant.long ∙ c.in-None.ensures.steps.0)))

pub loop-file-init : goal.loop-file-init
loop-file-init g c =
    let gives = c.into_iter-file-iterator.ensures.into_iter_gives in record {
      added = λ tests added.
          subst (λ files. AreAdded (g.H.Host.text_at c.args.host.now) c.args.asked.now [] files tests) gives.0
          (subst (λ before. AreAdded (g.H.Host.text_at c.args.host.now) c.args.asked.now before (into_iter_items c.into_iter-file-iterator.result) tests)
          c.new-tests.ensures.items added);
      long = gives.1 ∙ c.args.files.ok.0 ∙ ap length (sym gives.0);
    }
