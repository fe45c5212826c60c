-- One line after another.
use Rattle.std.proofs.Common.{List, arith, map, refl, subst, sym}
use Rattle.list_policy.specs.Line.{line_at}
use Rattle.list_policy.proofs.VerdictLemmas.{AreBrokenUpTo, broken_all, broken_more, broken_none}
use Rattle.cli_base.specs.PolicyVerdict.{note_place}
use Rattle.cli_base.specs.declared.policy_verdict.PolicyDiagnostic.{PolicyDiagnostic}
use Rattle.cli_base.proofs.policy_verdict.broken_lines.Goals as goal

pub loop-place-init : goal.loop-place-init
loop-place-init c =
    subst
    (λ (ns : List PolicyDiagnostic). AreBrokenUpTo c.args.list.now (map line_at c.args.lines.now) (map line_at c.args.lines.now) (map note_place ns))
    (sym c.new-broken.ensures.items) (broken_none c.args.list.now (map line_at c.args.lines.now))

pub loop-place-preserved : goal.loop-place-preserved
loop-place-preserved c =
    broken_more c.args.list.now (map line_at c.args.lines.now) c.args.lines.now c.loop-place.place _ c.index-lines-place.result
    c.in_ok-add_broken.ensures.0 (map note_place c.loop-place.broken.items) (map note_place c.add_broken.new.broken.items) refl
    c.loop-place-test.true c.index-lines-place.is c.in_ok-add_broken.ensures.1 c.in_ok-add_broken.ensures.2 c.loop-place.invariant

pub returns : goal.returns
returns c =
    broken_all c.args.list.now (map line_at c.args.lines.now) c.args.lines.now c.loop-place.place (map note_place c.loop-place.broken.items)
    (omega (arith, c.loop-place-test.false)) c.loop-place.invariant
