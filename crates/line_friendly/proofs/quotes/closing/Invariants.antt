-- The closing quote stands in what is left.
use Rattle.std.proofs.Common.{◌≡◌, ◌+◌, drop, false}
use Rattle.std.specs.Option.{option_map}
use Rattle.line_friendly.specs.Quotes.{closing}
use Rattle.line_friendly.proofs.quotes.closing.Given as goal

abbrev pub invariant-loop-i : goal.invariant-loop-i
invariant-loop-i l = closing false l.text ≡ option_map (λ n. l.i + n) (closing l.escaped (drop l.i l.text))
