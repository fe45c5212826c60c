-- What a check of a start list finds, as records.
use Rattle.std.specs.Prelude.{◌≡◌, ◌≢◌, ◌⊎◌, ℕ, ◌==◌, if◌then◌else◌, Bool, true, false, List, [], ◌∷◌, ◌++◌, codes, map, string_bytes, Option, Some, None}
use Rattle.std.specs.Borrow.{Bor}
use Rattle.std.specs.Option.{option_map}
use Rattle.own_model.specs.Listed.{Listed}
use Rattle.list_parser.specs.declared.fault.BootFault.TheVariants.{NoMemory}
use Rattle.list_parts.specs.PartTexts.{part_text, steps_text}
use Rattle.list_parts.specs.declared.list_part.ListPart.{ListPart}
use Rattle.list_parts.specs.declared.list_part.ListPart.TheVariants as parts
use Rattle.list_faults.specs.Places.{fault_of, member_name}
use Rattle.list_faults.specs.declared.list_fault.FaultSite.{FaultSite}
use Rattle.list_faults.specs.declared.list_fault.FaultSite.TheVariants as site
use Rattle.list_faults.specs.declared.list_fault.PlacedFault.{PlacedFault}
use Rattle.list_findings.specs.Phrases.{phrase_of, phrase_text}
use Rattle.list_findings.specs.Spare.{advice_on, if_any}
use Rattle.list_findings.specs.declared.finding.Finding.{Finding}
use Rattle.list_findings.specs.declared.unused_budget.UnusedBudget.{UnusedBudget}
use Rattle.list_review.specs.declared.review.Review.{Review}
use Rattle.view_diagnostics.specs.Diagnostics.{severity_name}
use Rattle.view_records.specs.Lists.{records_of}
use Rattle.view_records.specs.Records.{CellData, Record, absent, null, number, text}
use Rattle.view_records.specs.declared.record_list.RecordList.{RecordList}
use Rattle.cli_options.specs.declared.command_options.CheckOptions.{CheckOptions}
use Rattle.cli_base.specs.PolicyVerdict.{IsVerdictAt}
use Rattle.cli_base.specs.declared.policy_verdict.PolicyDiagnostic.{PolicyDiagnostic}
use Rattle.cli_base.specs.declared.policy_verdict.PolicyRemark.{PolicyRemark}
use Rattle.cli_base.specs.declared.policy_verdict.PolicyVerdict.{PolicyVerdict}
use Rattle.cli_base.specs.declared.policy_verdict.PolicyVerdict.TheVariants.{Held, Faulty, ReadFailure}
use Rattle.cli_lists.specs.ListStatus.{IsReviewOf, is_refused}

-- a text about a file, with a line, a column and a part of the list
abbrev pub noted_record : List ℕ → List ℕ → CellData → CellData → CellData → List ℕ → Record
noted_record kind path line column part message =
    (codes "kind", text kind) ∷ (codes "file", text path) ∷ (codes "line", line) ∷ (codes "column", column)
    ∷ (codes "part", part) ∷ (codes "text", text message) ∷ []

-- at a line and a column of a file, and about a whole file
abbrev pub placed_record : List ℕ → List ℕ → ℕ → ℕ → List ℕ → Record
placed_record kind path line column message = noted_record kind path (number line) (number column) absent message

abbrev pub file_record : List ℕ → List ℕ → List ℕ → Record
file_record kind path message = noted_record kind path absent absent absent message

-- ---- findings and advice

-- a finding at a place of the text, or in a part of the list
abbrev pub finding_at : List ℕ → ListPart → List ℕ → Record
finding_at path (parts.Text line column) message = placed_record (codes "finding") path line column message
finding_at path part message = noted_record (codes "finding") path absent absent (text (part_text part)) message

abbrev pub finding_record : List ℕ → Finding → Record
finding_record path finding = finding_at path finding.part (phrase_text (phrase_of finding.remark))

-- the advice on the budgets of servers, if there are any
abbrev pub advice_records : List ℕ → Option (List UnusedBudget) → List Record
advice_records path None = []
advice_records path (Some servers) = file_record (codes "advice") path (advice_on servers) ∷ []

abbrev pub review_records : List ℕ → Review → List Record
review_records path review = map (finding_record path) review.findings.items ++ advice_records path (if_any review.spare.items)

-- ---- a policy

abbrev pub note_record : List ℕ → List ℕ → PolicyDiagnostic → Record
note_record kind path note =
    if note.line == 0 then file_record kind path (string_bytes note.text)
    else placed_record kind path note.line note.column (string_bytes note.text)

-- a remark has the name of its severity
abbrev pub remark_record : List ℕ → PolicyRemark → Record
remark_record path remark = note_record (severity_name remark.severity) path remark.diagnostic

-- the remarks on a policy and its breaches, or its faults, at their places, or why it isn't read
abbrev pub verdict_records : List ℕ → PolicyVerdict → List Record
verdict_records path (Held found) =
    map (remark_record path) found.remarks.items ++ map (note_record (codes "breach") path) found.broken.items
verdict_records path (Faulty faults) = map (note_record (codes "fault") path) faults.items
verdict_records path (ReadFailure why) = file_record (codes "fault") path (string_bytes why) ∷ []

-- a policy's records are those of the verdict on the list by the policy at its path
abbrev pub AreOfPolicy : (List ℕ → Option (List ℕ)) → Option (Bor (List ℕ)) → Listed → List Record → Type 0
AreOfPolicy texts None list more = more ≡ []
AreOfPolicy texts (Some policy) list more =
    (verdict : PolicyVerdict) × IsVerdictAt texts policy.now list verdict × (more ≡ verdict_records policy.now verdict)

-- and none if the findings refuse the list
abbrev pub AreJudged : (List ℕ → Option (List ℕ)) → Bool → Option (Bor (List ℕ)) → Listed → List Record → Type 0
AreJudged texts true policy list more = more ≡ []
AreJudged texts false policy list more = AreOfPolicy texts policy list more

-- the records of a review are listed, and then those of the policy
abbrev pub ListsReview : (List ℕ → Option (List ℕ)) → CheckOptions → Review → RecordList → RecordList → Type 0
ListsReview texts asked review old new =
    (more : List Record) × AreJudged texts (is_refused asked.strict review) asked.policy review.list more
    × (records_of new ≡ records_of old ++ (review_records asked.list.now review ++ more))

-- ---- a fault

-- the part of a list that has a fault, and its member; nothing if the fault is in no part
abbrev pub member_after : List ℕ → Option (List ℕ) → List ℕ
member_after part None = part
member_after part (Some member) = part ++ (codes ": " ++ member)

abbrev pub faulty_part : FaultSite → List ℕ
faulty_part (site.Value flaw) = member_after (part_text flaw.part) (option_map member_name flaw.place.member)
faulty_part (site.Budget lack) = steps_text lack.steps
faulty_part (site.Text line column flaw) = []
faulty_part (site.Size size) = []
faulty_part site.Nowhere = []

abbrev pub placed_at : FaultSite → Option (ℕ × ℕ)
placed_at (site.Text line column flaw) = Some (line, column)
placed_at (site.Value flaw) = None
placed_at (site.Budget lack) = None
placed_at (site.Size size) = None
placed_at site.Nowhere = None

-- at its place in the text, or with its part
abbrev pub fault_at : List ℕ → Option (ℕ × ℕ) → List ℕ → List ℕ → Record
fault_at path (Some place) part message = placed_record (codes "fault") path place.0 place.1 message
fault_at path None part message = noted_record (codes "fault") path null null (text part) message

abbrev pub fault_record : List ℕ → FaultSite → List ℕ → Record
fault_record path place message = fault_at path (placed_at place) (faulty_part place) message

-- the record of a fault is listed with some message
abbrev pub ListsFault : List ℕ → FaultSite → RecordList → RecordList → Type 0
ListsFault path place old new =
    (message : List ℕ) × (records_of new ≡ records_of old ++ fault_record path place message ∷ [])

-- ---- a check

-- the records of the review of a text are listed, or that of its fault
abbrev pub ListsCheck : (List ℕ → Option (List ℕ)) → CheckOptions → List ℕ → RecordList → RecordList → Type 0
ListsCheck texts asked bytes old new =
    ((review : Review) × IsReviewOf bytes review × ListsReview texts asked review old new)
    ⊎ ((fault : PlacedFault) × (fault.fault ≢ NoMemory → fault_of bytes ≡ Some fault.fault) × ListsFault asked.list.now fault.place old new)
