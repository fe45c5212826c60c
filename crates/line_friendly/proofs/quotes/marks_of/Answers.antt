-- A byte is passed.
use Rattle.std.proofs.Common.{◌+◌, ◌∙◌, ap, arith, drop, length, refl, sym, ℕ}
use Rattle.std.proofs.lemmas.List.{length-drop}
use Rattle.line_friendly.specs.Quotes.{after_text, is_arrow, is_quote}
use Rattle.line_friendly.proofs.QuoteLemmas.{after_step, last_more, last_within}
use Rattle.line_friendly.proofs.quotes.marks_of.Goals as goal

pub loop-i-preserved : goal.loop-i-preserved
loop-i-preserved c = record {
  end =
      c.loop-i.invariant.end ∙ after_step c.args.text.now c.loop-i.end c.loop-i.i _ c.loop-i-test.true refl
      ∙ ap (λ at. after_text at (drop (c.loop-i.i + 1) c.args.text.now)) (sym c.after-end.ensures);
  arrow =
      c.loop-i.invariant.arrow
      ∙ last_more is_arrow c.args.text.now c.behind-rest.result.now c.loop-i.end c.after-end.result c.loop-i.i _ c.loop-i.arrow c.last_place-arrow.result c.is_outside.result c.is_arrow.result
      c.loop-i-test.true refl c.after-end.ensures c.is_outside.ensures c.behind-rest.ensures c.is_arrow.ensures.value c.last_place-arrow.ensures;
  arrow_in =
      last_within 4 c.loop-i.i (length c.args.text.now) c.is_outside.result c.is_arrow.result c.loop-i.arrow _ c.last_place-arrow.ensures
      (λ here. omega (arith, c.is_arrow.ensures.some here, ap length c.behind-rest.ensures, length-drop {A = ℕ})) c.loop-i.invariant.arrow_in;
  quote_in =
      last_within 1 c.loop-i.i (length c.args.text.now) c.is_outside-in-loop-i.result c.is_quote.result c.loop-i.quote _ c.last_place-quote.ensures
      (λ here. omega arith) c.loop-i.invariant.quote_in;
  quote =
      c.loop-i.invariant.quote
      ∙ last_more is_quote c.args.text.now c.behind-rest.result.now c.loop-i.end c.after-end.result c.loop-i.i _ c.loop-i.quote c.last_place-quote.result c.is_outside-in-loop-i.result c.is_quote.result
      c.loop-i-test.true refl c.after-end.ensures c.is_outside-in-loop-i.ensures c.behind-rest.ensures c.is_quote.ensures.value c.last_place-quote.ensures;
}
