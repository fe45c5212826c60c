-- What is left of the text tells the same behind what was seen.
use Rattle.std.proofs.Common.{◌≡◌, ◌+◌, ◌≤◌, drop, length, IfSome}
use Rattle.line_friendly.specs.Quotes.{after_text, is_arrow, is_quote, last_outside}
use Rattle.line_friendly.specs.declared.quotes.QuoteState.TheVariants.{Outside}
use Rattle.line_friendly.proofs.QuoteLemmas.{last_from}
use Rattle.line_friendly.proofs.quotes.marks_of.Given as goal

abbrev pub invariant-loop-i : goal.invariant-loop-i
invariant-loop-i l = record {
  end : after_text Outside l.text ≡ after_text l.end (drop l.i l.text);
  arrow : last_outside is_arrow Outside l.text ≡ last_from is_arrow l.end l.i l.text l.arrow;
  arrow_in : IfSome l.arrow (λ n. n + 4 ≤ length l.text);
  quote_in : IfSome l.quote (λ n. n + 1 ≤ length l.text);
  quote : last_outside is_quote Outside l.text ≡ last_from is_quote l.end l.i l.text l.quote;
}
