use Rattle.std.proofs.Common.{Err, inl, inr, ap}
use Rattle.list_findings.proofs.TextLemmas.{value_in-none, value_in-text}
use Rattle.list_findings.proofs.duplicate_members.value_of.Goals as goal

pub returns-in-Ok : goal.returns-in-Ok
returns-in-Ok c = value_in-text _ _ c.in-Ok.ensures.ok.0 c.in-Ok.ensures.ok.1

pub returns-in-Invalid : goal.returns-in-Invalid
returns-in-Invalid c = value_in-none _ (elim c.in-Invalid.is [
  | inl is ↦ c.in-Err.ensures.invalid (ap Err is)
  | inr other ↦ elim other [
    | inl is ↦ absurd (c.in-Err.ensures.never_too_long (ap Err is))
    | inr is ↦ absurd (c.in-Err.ensures.never_duplicate (ap Err is))
  ]
])
