-- An answer more is noted.
use Rattle.std.proofs.Common.{◌≡◌, ◌∷◌, ◌+◌, ◌<◌, length, drop, drop-cons, map, add-one, refl, ap, sym, ◌∙◌, arith}
use Rattle.view_coverage.specs.Covered.{answer_of, rows_after}
use Rattle.view_coverage.proofs.scenario_coverage.note_all.Goals as goal

pub loop-exchange-preserved : goal.loop-exchange-preserved
loop-exchange-preserved c =
    let i = c.loop-exchange.exchange-index in
    let exchanges = c.args.exchanges.now in
    let within : i < length exchanges = omega (arith, c.loop-exchange-test.true) in
    let more : drop i exchanges ≡ c.exchange-item.result ∷ drop (i + 1) exchanges
    = rw (add-one, drop-cons exchanges i c.exchange-item.result, ← c.exchange-item.is) refl in
    ap (rows_after c.args.list.now (map answer_of (drop (i + 1) exchanges))) c.in_ok-note.ensures
    ∙ ap (λ xs. rows_after c.args.list.now (map answer_of xs) c.loop-exchange.rows) (sym more)
    ∙ c.loop-exchange.invariant
