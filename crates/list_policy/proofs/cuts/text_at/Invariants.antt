use Rattle.std.proofs.Common.{◌≡◌, ◌+◌, drop}
use Rattle.std.specs.Option.{option_map}
use Rattle.list_policy.specs.Cuts.{text_at}
use Rattle.list_policy.proofs.cuts.text_at.Given as goal

-- the first place is at this one or after it
abbrev pub invariant-loop-at : goal.invariant-loop-at
invariant-loop-at l = text_at l.needle l.text ≡ option_map (λ n. l.at + n) (text_at l.needle (drop l.at l.text))
