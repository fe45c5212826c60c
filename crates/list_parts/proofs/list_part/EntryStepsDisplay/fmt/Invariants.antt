-- The steps so far, and those that are left.
use Rattle.std.proofs.Common.{◌≡◌, ℕ, List, ◌++◌, drop}
use denote.Shadow.{shadow}
use denote.Text.{Utf8}
use Rattle.std.specs.Fmt.{HasWritten, IsPlainFormatter}
use Rattle.list_parts.specs.PartTexts.{steps_after, steps_text}
use Rattle.list_parts.proofs.list_part.EntryStepsDisplay.fmt.Given as goal

abbrev pub invariant-loop-step : goal.invariant-loop-step
invariant-loop-step g l =
    shadow (Utf8 l.before)
    × (IsPlainFormatter l.fn.f → (shown : List ℕ) × HasWritten g.W.Write.write_str_gives l.fn.f shown l.f
    × (shown ++ steps_after l.before (drop l.step-index l.self) ≡ steps_text l.self))
