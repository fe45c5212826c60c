-- The text of one byte more is told, or a write fails there.
use Rattle.std.proofs.Common.{◌<◌, length, arith, subst}
use Rattle.std.proofs.lemmas.List.{take_all}
use Rattle.own_model.specs.Text.{hex_bytes}
use Rattle.run_devices.specs.RunOutput.{Tells}
use Rattle.run_lines.proofs.AccountLemmas.{told_on, told_cut}
use Rattle.run_devices.proofs.GatheredLemmas.{Tells-none, told_err}
use Rattle.run_scenario.specs.Texts.{characters_text, written_in}
use Rattle.run_scenario.proofs.ShownLemmas.{bytes_counted, signs_cut, signs_more, written_nothing}
use Rattle.run_scenario.proofs.printable_hex.put_signs.Goals as goal

pub loop-place-init : goal.loop-place-init
loop-place-init g c = record {
  told = subst (Tells (g.K.Sink.contents c.args.sink.now) c.args.gathered.now (g.K.Sink.contents c.args.sink.now) c.args.gathered.now) (written_nothing c.args.in_cell)
      (Tells-none (g.K.Sink.contents c.args.sink.now) c.args.gathered.now);
  works = c.requires.works;
}

pub loop-place-preserved : goal.loop-place-preserved
loop-place-preserved g c =
    let within : c.loop-place.place < length (hex_bytes c.args.hex.now) = omega (arith, c.loop-place-test.true, bytes_counted c.args.hex.now c.requires.formed) in
    record {
      told = told_on (signs_more c.args.in_cell (hex_bytes c.args.hex.now) c.loop-place.place c.byte_at.result within c.byte_at.ensures) c.loop-place.invariant.told c.in_ok-put_sign.ensures.told;
      works = c.in_ok-put_sign.ensures.failing;
    }

pub returns-in_err-put_sign-clause-told : goal.returns-in_err-put_sign-clause-told
returns-in_err-put_sign-clause-told g c =
    let within : c.loop-place.place < length (hex_bytes c.args.hex.now) = omega (arith, c.loop-place-test.true, bytes_counted c.args.hex.now c.requires.formed) in
    told_err _ _ _ c.from_residual.ensures.1
    (told_cut _ (signs_cut c.args.in_cell (hex_bytes c.args.hex.now) c.loop-place.place c.byte_at.result within c.byte_at.ensures) c.loop-place.invariant.told (c.in_err-put_sign.ensures.told.1))

pub returns-clause-told : goal.returns-clause-told
returns-clause-told g c =
    subst (λ bytes. Tells (g.K.Sink.contents c.args.sink.now) c.args.gathered.now (g.K.Sink.contents c.loop-place.sink) c.loop-place.gathered (written_in c.args.in_cell (characters_text bytes)))
    (take_all c.loop-place.place (hex_bytes c.args.hex.now) (omega (arith, c.loop-place-test.false, bytes_counted c.args.hex.now c.requires.formed))) c.loop-place.invariant.told
