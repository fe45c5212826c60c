-- A byte that can be shown leaves the question to the others.
use Rattle.std.proofs.Common.{refl, arith, sym, ap, ◌∙◌}
use Rattle.std.specs.List.{list_all}
use Rattle.std.proofs.lemmas.List.{drop_all}
use Rattle.own_model.specs.Text.{hex_bytes}
use Rattle.run_scenario.specs.Texts.{is_shown}
use Rattle.run_scenario.proofs.ShownLemmas.{bytes_counted, shown_not, shown_on}
use Rattle.run_scenario.proofs.printable_hex.are_shown.Goals as goal

pub loop-place-init : goal.loop-place-init
loop-place-init c = refl

pub loop-place-preserved : goal.loop-place-preserved
loop-place-preserved c =
    shown_on (hex_bytes c.args.hex.now) c.loop-place.place c.byte_at.result (omega (arith, c.loop-place-test.true, bytes_counted c.args.hex.now c.requires)) c.byte_at.ensures
    (sym c.is_shown.ensures ∙ c.if-not-is_shown.false) c.loop-place.invariant

pub returns-then-not-is_shown : goal.returns-then-not-is_shown
returns-then-not-is_shown c =
    shown_not (hex_bytes c.args.hex.now) c.loop-place.place c.byte_at.result (omega (arith, c.loop-place-test.true, bytes_counted c.args.hex.now c.requires)) c.byte_at.ensures
    (sym c.is_shown.ensures ∙ c.if-not-is_shown.true) c.loop-place.invariant

pub returns : goal.returns
returns c = ap (list_all is_shown) (sym (drop_all c.loop-place.place (hex_bytes c.args.hex.now) (omega (arith, c.loop-place-test.false, bytes_counted c.args.hex.now c.requires)))) ∙ c.loop-place.invariant
