-- The text of one byte more.
use Rattle.std.proofs.Common.{◌++◌, ◌<◌, length, arith, ap, sym, ◌∙◌, false}
use Rattle.std.proofs.lemmas.List.{take_all}
use Rattle.own_model.specs.Text.{hex_bytes}
use Rattle.run_scenario.specs.Texts.{character_text, characters_text}
use Rattle.run_scenario.proofs.ShownLemmas.{bytes_counted, signs_more}
use Rattle.run_scenario.proofs.printable_hex.text_of.Goals as goal

pub loop-place-preserved : goal.loop-place-preserved
loop-place-preserved c =
    let within : c.loop-place.place < length (hex_bytes c.args.hex.now) = omega (arith, c.loop-place-test.true, bytes_counted c.args.hex.now c.requires) in
    c.in_ok-add_sign.ensures ∙ ap (λ text. text ++ character_text c.byte_at.result) c.loop-place.invariant
    ∙ sym (signs_more false (hex_bytes c.args.hex.now) c.loop-place.place c.byte_at.result within c.byte_at.ensures)

pub returns : goal.returns
returns c =
    c.loop-place.invariant
    ∙ ap characters_text (take_all c.loop-place.place (hex_bytes c.args.hex.now) (omega (arith, c.loop-place-test.false, bytes_counted c.args.hex.now c.requires)))
