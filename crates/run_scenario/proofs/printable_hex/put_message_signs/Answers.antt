-- One byte more is output, or a write fails there.
use Rattle.std.proofs.Common.{◌<◌, ◌≤◌, [], length, arith, refl, ◌∙◌}
use Rattle.own_model.specs.Text.{hex_bytes}
use Rattle.run_devices.proofs.GatheredLemmas.{Tells-none, told_err}
use Rattle.view_diagnostics.proofs.FrontLemmas.{front_all, front_failed, front_more}
use Rattle.run_scenario.proofs.ComplaintLemmas.{sign_next, signs_over}
use Rattle.run_scenario.proofs.ShownLemmas.{bytes_counted}
use Rattle.run_scenario.proofs.printable_hex.put_message_signs.Goals as goal

pub loop-place-init : goal.loop-place-init
loop-place-init g c = record { front = record { done = []; parts = refl; tells = Tells-none _ _ }; subject = refl; works = c.requires.works }

pub loop-place-preserved : goal.loop-place-preserved
loop-place-preserved g c =
    let within : c.loop-place.place < length (hex_bytes c.args.hex.now) = omega (arith, c.loop-place-test.true, bytes_counted c.args.hex.now c.requires.formed) in
    let is = c.loop-place.invariant.subject in
    record {
      front = front_more _ _ _ _ c.loop-place.invariant.front (sign_next _ _ c.loop-place.place c.byte_at.result within c.byte_at.ensures) (rw is at c.in_ok-put_message_sign.ensures.output);
      subject = c.in_ok-put_message_sign.ensures.subject ∙ is;
      works = c.in_ok-put_message_sign.ensures.failing;
    }

pub returns-in_err-put_message_sign-clause-output : goal.returns-in_err-put_message_sign-clause-output
returns-in_err-put_message_sign-clause-output g c =
    let within : c.loop-place.place < length (hex_bytes c.args.hex.now) = omega (arith, c.loop-place-test.true, bytes_counted c.args.hex.now c.requires.formed) in
    told_err _ _ _ c.from_residual.ensures.1
    (front_failed _ _ _ _ c.loop-place.invariant.front (sign_next _ _ c.loop-place.place c.byte_at.result within c.byte_at.ensures) (rw c.loop-place.invariant.subject at c.in_err-put_message_sign.ensures.output))

pub returns-clause-output : goal.returns-clause-output
returns-clause-output g c =
    let over : length (hex_bytes c.args.hex.now) ≤ c.loop-place.place = omega (arith, c.loop-place-test.false, bytes_counted c.args.hex.now c.requires.formed) in
    front_all _ _ c.loop-place.invariant.front (signs_over _ _ c.loop-place.place over)
