-- The list next to a file, or the one that the command line names.
use Rattle.std.proofs.Common.{◌∙◌, inl, refl, subst, sym}
use Rattle.cli_base.specs.Files.{IsUnknown}
use Rattle.cli_tests.proofs.PlanLemmas.{named_list}
use Rattle.cli_tests.proofs.planned_test.checked_list.Goals as goal

pub returns-then-may_exist : goal.returns-then-may_exist
returns-then-may_exist g c = rw c.if-not-asked.false (inl (c.in_ok-list.list, refl, c.in_ok-list.ensures))

pub returns-in-Some : goal.returns-in-Some
returns-in-Some g c =
    named_list (g.H.Host.text_at c.args.host.now) c.args.asked.now c.args.file.now c.in-Some.machine c.in_ok-list-in-Some.list c.if-not-asked.false
    (subst (λ path. IsUnknown (g.H.Host.text_at c.args.host.now) path) (c.as_str.ensures.value ∙ c.in_ok-list.ensures)
    (c.may_exist.ensures c.if-may_exist.false))
    (sym c.is_policy.ensures ∙ c.if-is_policy.false) c.in-Some.is c.in_ok-list-in-Some.ensures.ok
