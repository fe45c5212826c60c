use Rattle.std.proofs.Common.{◌≡◌, ℕ, List, ◌++◌, drop}
use Rattle.std.specs.Option.{option_copied}
use Rattle.std.specs.Fmt.{HasWritten, IsPlainFormatter}
use Rattle.list_reach.specs.RuleTexts.{steps_text, summarized, summary_text}
use Rattle.list_reach.proofs.route_summary.RouteSummaryDisplay.fmt.Given as goal

abbrev pub invariant-loop-place : goal.invariant-loop-place
invariant-loop-place g l =
    IsPlainFormatter l.initial.f → (shown : List ℕ) × HasWritten g.W.Write.write_str_gives l.initial.f shown l.f
    × (shown ++ steps_text l.list (option_copied l.asks) l.is_first (drop l.place l.hops) ≡ summary_text (summarized l.self))
