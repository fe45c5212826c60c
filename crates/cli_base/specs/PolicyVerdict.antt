-- The result of a check of a start list against a policy: the places of its diagnostics, and its exit status.
use Rattle.std.specs.Prelude.{ℕ, List, ◌<◌, ◌⊎◌, Bool, false, if◌then◌else◌, length, map, Option, Some, None, IfSome, MatchOption, Result, Ok, Err}
use Rattle.std.specs.Str.{IsUtf8}
use Rattle.list_policy.specs.Status.{exit_status}
use Rattle.list_policy.specs.Verdict.{FoundAt, IsVerdict, PlaceAt}
use Rattle.own_model.specs.Listed.{Listed}
use Rattle.cli_base.specs.Files.{IsTextAt, front}
use Rattle.cli_base.specs.ListFailures.{read_lacks_memory}
use Rattle.cli_base.specs.declared.policy_verdict.PolicyDiagnostic.{PolicyDiagnostic}
use Rattle.cli_base.specs.declared.policy_verdict.PolicyFindings.{PolicyFindings}
use Rattle.cli_base.specs.declared.policy_verdict.PolicyReadFailure.{PolicyReadFailure}
use Rattle.cli_base.specs.declared.policy_verdict.PolicyReadFailure.TheVariants.{Unread, TooLong, NoText}
use Rattle.cli_base.specs.declared.policy_verdict.PolicyVerdict.{PolicyVerdict}
use Rattle.cli_base.specs.declared.policy_verdict.PolicyVerdict.TheVariants.{Held, Faulty, ReadFailure}

-- by the count of breaches, or of faults; a policy that isn't read is refused, and so is a line that speaks of nothing if that counts
abbrev pub verdict_status : Bool → PolicyVerdict → ℕ
verdict_status strict (Held found) = exit_status (if strict then found.void else 0) (length found.broken.items)
verdict_status strict (Faulty faults) = exit_status (length faults.items) 0
verdict_status strict (ReadFailure why) = 2

-- the place of a diagnostic
abbrev pub note_place : PolicyDiagnostic → PlaceAt
note_place note = record { line = note.line; column = note.column }

abbrev pub found_at : PolicyFindings → FoundAt
found_at found = record { broken = map note_place found.broken.items; void = found.void }

-- what is found of the lines, or the places of the faults; none if the policy isn't read
abbrev pub verdict_notes : PolicyVerdict → Option (Result FoundAt (List PlaceAt))
verdict_notes (Held found) = Some (Ok (found_at found))
verdict_notes (Faulty faults) = Some (Err (map note_place faults.items))
verdict_notes (ReadFailure why) = None

-- the host is out of memory for the text of a policy
abbrev pub policy_lacks_memory : PolicyReadFailure → Bool
policy_lacks_memory (Unread message) = read_lacks_memory message.why
policy_lacks_memory (TooLong path) = false
policy_lacks_memory (NoText path) = false

-- bytes are no text of a policy
abbrev pub IsNoPolicy : List ℕ → Type 0
IsNoPolicy bytes = (65536 < length bytes) ⊎ (¬ (IsUtf8 bytes))

-- the file at a path is no policy, as far as it is known
abbrev pub HasNoPolicy : (List ℕ → Option (List ℕ)) → List ℕ → Type 0
HasNoPolicy texts path = IfSome (texts path) (λ bytes. IsNoPolicy (front bytes))

-- a verdict is that of a list by the text of the policy at a path, if that is one
abbrev pub IsVerdictAt : (List ℕ → Option (List ℕ)) → List ℕ → Listed → PolicyVerdict → Type 0
IsVerdictAt texts path list verdict =
    MatchOption (verdict_notes verdict) (HasNoPolicy texts path)
    (λ notes. (text : List ℕ) × IsTextAt texts path text × IsVerdict list text notes)
