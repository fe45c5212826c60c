-- One more chunk is output.
use Rattle.std.proofs.Common.{◌≡◌, ◌<◌, length, refl, rules, subst}
use Rattle.std.specs.Str.{IsUtf8}
use Rattle.run_devices.proofs.GatheredLemmas.{told_err}
use Rattle.view_diagnostics.proofs.FrontLemmas.{front_more, front_failed, front_all}
use Rattle.view_diagnostics.proofs.ShownLemmas.{shown_chunk, shown_last_chunk, shown_front, shown_none}
use Rattle.view_diagnostics.proofs.escape.put_text.Goals as goal

pub returns-in_err-put_characters-clause-output : goal.returns-in_err-put_characters-clause-output
returns-in_err-put_characters-clause-output g c =
    let steps = c.in-Some.ensures.steps in
    let is = shown_front c.args.form _ _ _ _ steps.0 (steps.3.0) (steps.3.1) (steps.2) (subst IsUtf8 c.valid.ensures c.valid.utf8) in
    told_err _ _ _ c.from_residual.ensures.1 (front_failed _ _ _ _ c.loop-chunk.invariant.front (is.1) (rw c.valid.ensures at c.in_err-put_characters.ensures.output))

pub loop-chunk-preserved-in-Continue-branch-2 : goal.loop-chunk-preserved-in-Continue-branch-2
loop-chunk-preserved-in-Continue-branch-2 g c =
    let steps = c.in-Some.ensures.steps in
    let some : 0 < length c.in-Some.chunk.invalid.now = search rules in
    let is = shown_chunk c.args.form _ _ _ _ steps.0 (steps.3.0) (steps.3.1) some (subst IsUtf8 c.valid.ensures c.valid.utf8) in
    let valid = front_more _ _ _ _ c.loop-chunk.invariant.front is (rw c.valid.ensures at c.in_ok-put_characters.ensures.output) in
    record {
      front = front_more _ _ _ _ valid refl (rw c.as_bytes.ensures.value at c.in_ok-put.ensures.told);
      works = c.in_ok-put.ensures.failing;
    }

pub returns-in_err-put-clause-output : goal.returns-in_err-put-clause-output
returns-in_err-put-clause-output g c =
    let steps = c.in-Some.ensures.steps in
    let some : 0 < length c.in-Some.chunk.invalid.now = search rules in
    let is = shown_chunk c.args.form _ _ _ _ steps.0 (steps.3.0) (steps.3.1) some (subst IsUtf8 c.valid.ensures c.valid.utf8) in
    let valid = front_more _ _ _ _ c.loop-chunk.invariant.front is (rw c.valid.ensures at c.in_ok-put_characters.ensures.output) in
    told_err _ _ _ c.from_residual-in_err-put.ensures.1 (front_failed _ _ _ _ valid refl (rw c.as_bytes.ensures.value at c.in_err-put.ensures.told))

pub loop-chunk-preserved : goal.loop-chunk-preserved
loop-chunk-preserved g c =
    let steps = c.in-Some.ensures.steps in
    let none : length c.in-Some.chunk.invalid.now ≡ 0 = search rules in
    let is = shown_last_chunk c.args.form _ _ _ _ steps.0 (steps.3.0) none (steps.2 none) (subst IsUtf8 c.valid.ensures c.valid.utf8) in
    record {
      front = front_more _ _ _ _ c.loop-chunk.invariant.front is (rw c.valid.ensures at c.in_ok-put_characters.ensures.output);
      works = c.in_ok-put_characters.ensures.failing;
    }

pub returns-clause-output : goal.returns-clause-output
returns-clause-output g c = front_all _ _ c.loop-chunk.invariant.front (shown_none _ _ (c.in-None.ensures.steps.0))
