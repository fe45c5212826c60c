-- A byte that doesn't call for quotes leaves the question to the others.
use Rattle.std.proofs.Common.{refl, arith, sym, ap, ◌∙◌}
use Rattle.csv.specs.Writing.{default_writer, needs_quotes}
use Rattle.std.proofs.lemmas.List.{drop_all}
use Rattle.own_model.specs.Text.{hex_bytes}
use Rattle.run_scenario.specs.Texts.{characters_text}
use Rattle.run_scenario.proofs.ShownLemmas.{bytes_counted, quotes_on, quotes_there}
use Rattle.run_scenario.proofs.printable_hex.need_quotes.Goals as goal

pub loop-place-init : goal.loop-place-init
loop-place-init c = refl

pub loop-place-preserved : goal.loop-place-preserved
loop-place-preserved c =
    quotes_on (hex_bytes c.args.hex.now) c.loop-place.place c.byte_at.result (omega (arith, c.loop-place-test.true, bytes_counted c.args.hex.now c.requires)) c.byte_at.ensures
    (sym c.needs_quotes.ensures ∙ c.if-needs_quotes.false) c.loop-place.invariant

pub returns-then-needs_quotes : goal.returns-then-needs_quotes
returns-then-needs_quotes c =
    quotes_there (hex_bytes c.args.hex.now) c.loop-place.place c.byte_at.result (omega (arith, c.loop-place-test.true, bytes_counted c.args.hex.now c.requires)) c.byte_at.ensures
    (sym c.needs_quotes.ensures ∙ c.if-needs_quotes.true) c.loop-place.invariant

pub returns : goal.returns
returns c =
    ap (λ xs. needs_quotes default_writer (characters_text xs)) (sym (drop_all c.loop-place.place (hex_bytes c.args.hex.now) (omega (arith, c.loop-place-test.false, bytes_counted c.args.hex.now c.requires))))
    ∙ c.loop-place.invariant
