-- The stray arrow stands in what is left.
use Rattle.std.proofs.Common.{◌≡◌, ◌+◌, drop}
use Rattle.std.specs.Option.{option_map}
use Rattle.line_friendly.specs.Quotes.{first_stray}
use Rattle.line_friendly.specs.declared.quotes.QuoteState.TheVariants.{Outside}
use Rattle.line_friendly.proofs.quotes.stray_of.Given as goal

abbrev pub invariant-loop-i : goal.invariant-loop-i
invariant-loop-i l = first_stray Outside l.text ≡ option_map (λ n. l.i + n) (first_stray l.at (drop l.i l.text))
