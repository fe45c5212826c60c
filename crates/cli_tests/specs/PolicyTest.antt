-- The result of the test of a policy, and of a start list by itself.
use Rattle.std.specs.Prelude.{◌≡◌, ℕ, ◌==◌, ◌⊎◌, Bool, false, true, is_some, length, List, Option, Some, None, Ok}
use Rattle.std.specs.Option.{option_map}
use Rattle.own_model.specs.Listed.{Listed}
use Rattle.list_faults.specs.Places.{fault_of}
use Rattle.list_parser.specs.Quota.{quota_fault}
use Rattle.list_parser.specs.StartText.{json_in, list_in}
use Rattle.list_findings.specs.AllFindings.{all_findings}
use Rattle.list_findings.specs.declared.finding.Finding.{Finding}
use Rattle.cli_base.specs.Files.{HasNoList}
use Rattle.cli_base.specs.MachineChoice.{list_beside}
use Rattle.cli_base.specs.MachineTexts.{IsFilled}
use Rattle.cli_base.specs.PolicyVerdict.{IsVerdictAt, verdict_status}
use Rattle.cli_base.specs.declared.policy_verdict.PolicyVerdict.{PolicyVerdict}
use Rattle.cli_base.specs.declared.settings.Settings.{Settings}

-- a policy is kept exactly if the check against it has the status 0
abbrev pub is_kept : Bool → PolicyVerdict → Bool
is_kept strict verdict = verdict_status strict verdict == 0

-- a test passes exactly if a list keeps the policy at a path
abbrev pub IsKeptBy : (List ℕ → Option (List ℕ)) → Bool → List ℕ → Listed → Bool → Type 0
IsKeptBy texts strict policy list passed =
    (verdict : PolicyVerdict) × IsVerdictAt texts policy list verdict × (passed ≡ is_kept strict verdict)

-- by the text of a start list: the test passes exactly if the list boots and passes
abbrev pub IsListResult : (Listed → Bool → Type 0) → List ℕ → Bool → Type 0
IsListResult Passes text passed =
    ((passed ≡ false) × (is_some (fault_of text) ≡ true))
    ⊎ ((list : Listed) × (list_in text ≡ Ok list) × (quota_fault list ≡ None) × Passes list passed)

-- a policy is tested on the start list next to it, with the values of names; without one the test fails
abbrev pub IsPolicyResult : (List ℕ → Option (List ℕ)) → Bool → Settings → List ℕ → Bool → Type 0
IsPolicyResult texts strict settings policy passed =
    ((passed ≡ false) × HasNoList texts settings (list_beside policy))
    ⊎ ((text : List ℕ) × IsFilled texts settings (list_beside policy) text × IsListResult (IsKeptBy texts strict policy) text passed)

-- a list passes by itself exactly if it has no findings
abbrev pub HasNoFindings : List ℕ → Listed → Bool → Type 0
HasNoFindings text list passed =
    (findings : List Finding)
    × (Some findings ≡ option_map (λ value. all_findings text value list) (json_in text))
    × (passed ≡ (length findings == 0))

-- the start list of a path is tested by itself, with the values of names
abbrev pub IsCheckResult : (List ℕ → Option (List ℕ)) → Settings → List ℕ → Bool → Type 0
IsCheckResult texts settings path passed =
    ((passed ≡ false) × HasNoList texts settings path)
    ⊎ ((text : List ℕ) × IsFilled texts settings path text × IsListResult (HasNoFindings text) text passed)
