-- What is kept of the replies of a run.
use Rattle.std.specs.Prelude.{ℕ, List, [], ◌∷◌, ◌++◌}
use Rattle.core_calls.specs.declared.outcome.Outcome.{Outcome}
use Rattle.core_calls.specs.declared.outcome.Outcome.TheVariants.{Quotas, Served}
use Rattle.core_calls.specs.declared.outcome.ServiceOutcome.TheVariants.{Quotas as ServedQuotas}

-- the text of a reply, unless it has the limits of an account
abbrev pub kept_text : Outcome → List ℕ → List ℕ
kept_text (Quotas quotas) text = []
kept_text (Served (ServedQuotas quotas)) text = []
kept_text outcome text = text

-- replies with one more in a line of its own
abbrev pub with_reply : Outcome → List ℕ → List ℕ → List ℕ
with_reply outcome text replies = (replies ++ kept_text outcome text) ++ 10 ∷ []
