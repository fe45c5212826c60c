-- One rule after another, each of the next list outward.
use Rattle.std.proofs.Common.{◌≡◌, ◌∙◌, ◌+◌, ◌-◌, ◌<◌, ◌==◌, ◌&&◌, ◌∷◌, false, true, suc, length, drop, get_or, Some, None, add-one, drop-cons, arith, refl, sym}
use Rattle.std.specs.List.{slice_get}
use Rattle.std.proofs.lemmas.Bool.Decides.{nat_tests}
use Rattle.std.proofs.lemmas.Bool.{and_from, and_left, and_right}
use Rattle.list_findings.specs.Idle.{is_of}
use Rattle.list_findings.proofs.IdleLemmas.{among_here, among_nobody, among_none, among_outward}
use Rattle.list_findings.proofs.idle_rules.is_among.Goals.{else-is_of-via-then-is_of+else-rule-place, else-is_of-via-else-is_of}
use Rattle.list_findings.proofs.idle_rules.is_among.Goals as goal

pub returns-in_default : goal.returns-in_default
returns-in_default c =
    let within : c.loop-rule.rule-index < length c.args.rules.now = omega arith in
    let at : drop c.loop-rule.rule-index c.args.rules.now ≡ get_or c.args.rules.now c.loop-rule.rule-index 0 ∷ drop (c.loop-rule.rule-index + 1) c.args.rules.now
    = rw (add-one, drop-cons c.args.rules.now c.loop-rule.rule-index 0) refl in
    let nobody : slice_get c.args.list.now.entries c.loop-rule.number ≡ None = sym c.in_default.ensures in
    sym (among_nobody c.args.list.now c.args.owner c.args.place c.loop-rule.number (get_or c.args.rules.now c.loop-rule.rule-index 0)
    (drop (c.loop-rule.rule-index + 1) c.args.rules.now) (drop c.loop-rule.rule-index c.args.rules.now) at nobody)
    ∙ c.loop-rule.invariant

pub returns-then-rule-place : goal.returns-then-rule-place
returns-then-rule-place c =
    let within : c.loop-rule.rule-index < length c.args.rules.now = omega arith in
    let at : drop c.loop-rule.rule-index c.args.rules.now ≡ get_or c.args.rules.now c.loop-rule.rule-index 0 ∷ drop (c.loop-rule.rule-index + 1) c.args.rules.now
    = rw (add-one, drop-cons c.args.rules.now c.loop-rule.rule-index 0) refl in
    let somebody : slice_get c.args.list.now.entries c.loop-rule.number ≡ Some c.in-Some.entry.now = sym c.in-Some.ensures in
    let mine : is_of c.args.owner c.loop-rule.number c.in-Some.entry.now ≡ true = cc in
    let same : (get_or c.args.rules.now c.loop-rule.rule-index 0 == c.args.place) ≡ true = grind (arith, nat_tests) in
    sym (among_here c.args.list.now c.args.owner c.args.place c.loop-rule.number (get_or c.args.rules.now c.loop-rule.rule-index 0)
    (drop (c.loop-rule.rule-index + 1) c.args.rules.now) (drop c.loop-rule.rule-index c.args.rules.now) c.in-Some.entry.now at somebody
    (and_from _ _ mine same))
    ∙ c.loop-rule.invariant

pub returns-then-home-eq0 : goal.returns-then-home-eq0
returns-then-home-eq0 c =
    let within : c.loop-rule.rule-index < length c.args.rules.now = omega arith in
    let at : drop c.loop-rule.rule-index c.args.rules.now ≡ get_or c.args.rules.now c.loop-rule.rule-index 0 ∷ drop (c.loop-rule.rule-index + 1) c.args.rules.now
    = rw (add-one, drop-cons c.args.rules.now c.loop-rule.rule-index 0) refl in
    let somebody : slice_get c.args.list.now.entries c.loop-rule.number ≡ Some c.in-Some.entry.now = sym c.in-Some.ensures in
    let other : (is_of c.args.owner c.loop-rule.number c.in-Some.entry.now && get_or c.args.rules.now c.loop-rule.rule-index 0 == c.args.place) ≡ false =
    elim c.else-is_of.branch [
      | else-is_of-via-then-is_of+else-rule-place w ↦ and_right (is_of c.args.owner c.loop-rule.number c.in-Some.entry.now) (get_or c.args.rules.now c.loop-rule.rule-index 0 == c.args.place)
          (grind (arith, nat_tests, w.if-rule-place.false))
      | else-is_of-via-else-is_of w ↦ and_left _ _ (sym c.is_of.ensures ∙ w.if-is_of.false)
    ] in
    let top : c.in-Some.entry.now.home ≡ 0 = omega (arith, c.home.ensures, c.if-home-eq0.true) in
    sym (among_none c.args.list.now c.args.owner c.args.place c.loop-rule.number (get_or c.args.rules.now c.loop-rule.rule-index 0)
    (drop (c.loop-rule.rule-index + 1) c.args.rules.now) (drop c.loop-rule.rule-index c.args.rules.now) c.in-Some.entry.now at somebody other top)
    ∙ c.loop-rule.invariant

pub loop-rule-preserved : goal.loop-rule-preserved
loop-rule-preserved c =
    let within : c.loop-rule.rule-index < length c.args.rules.now = omega arith in
    let at : drop c.loop-rule.rule-index c.args.rules.now ≡ get_or c.args.rules.now c.loop-rule.rule-index 0 ∷ drop (c.loop-rule.rule-index + 1) c.args.rules.now
    = rw (add-one, drop-cons c.args.rules.now c.loop-rule.rule-index 0) refl in
    let somebody : slice_get c.args.list.now.entries c.loop-rule.number ≡ Some c.in-Some.entry.now = sym c.in-Some.ensures in
    let other : (is_of c.args.owner c.loop-rule.number c.in-Some.entry.now && get_or c.args.rules.now c.loop-rule.rule-index 0 == c.args.place) ≡ false =
    elim c.else-is_of.branch [
      | else-is_of-via-then-is_of+else-rule-place w ↦ and_right (is_of c.args.owner c.loop-rule.number c.in-Some.entry.now) (get_or c.args.rules.now c.loop-rule.rule-index 0 == c.args.place)
          (grind (arith, nat_tests, w.if-rule-place.false))
      | else-is_of-via-else-is_of w ↦ and_left _ _ (sym c.is_of.ensures ∙ w.if-is_of.false)
    ] in
    let out : c.in-Some.entry.now.home ≡ suc (c.home-number.result - 1) = omega (arith, c.home.ensures, c.home-number.ensures, c.if-home-eq0.false) in
    sym (among_outward c.args.list.now c.args.owner c.args.place c.loop-rule.number (get_or c.args.rules.now c.loop-rule.rule-index 0)
    (c.home-number.result - 1) (drop (c.loop-rule.rule-index + 1) c.args.rules.now) (drop c.loop-rule.rule-index c.args.rules.now) c.in-Some.entry.now at
    somebody other out)
    ∙ c.loop-rule.invariant
