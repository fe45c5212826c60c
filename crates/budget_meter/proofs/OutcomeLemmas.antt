-- What an outcome states is what its rendering tells.
use Rattle.std.proofs.Common.{◌≡◌, ◌∙◌, ◌||◌, ℕ, List, [], ◌∷◌, ◌++◌, codes, decimal, Some, None, refl, sym, ap, subst}
use Rattle.std.specs.Str.{bytes_eq}
use Rattle.trade_base.specs.Refusal.{refusal_name}
use Rattle.trade_base.specs.declared.refusal.Refusal.{Refusal}
use Rattle.trade_base.specs.declared.refusal.Refusal.TheVariants as refusal
use Rattle.own_model.specs.FileText.{file_reply}
use Rattle.own_model.specs.FileText as model
use Rattle.core_calls.specs.FileError.{model_error}
use Rattle.core_calls.specs.Outcome.{IsText}
use Rattle.core_calls.specs.declared.file_error.FileError.{FileError}
use Rattle.core_calls.specs.declared.file_error.FileError.TheVariants as error
use Rattle.core_calls.specs.declared.outcome.Outcome.{Outcome}
use Rattle.core_calls.specs.declared.outcome.Outcome.TheVariants.{Selected, Attached, Bytes, Done, Quotas, Reserved, Served, Refused}
use Rattle.core_calls.specs.declared.outcome.ServiceOutcome.TheVariants.{Done as ServiceDone, Count, Bytes as ServiceBytes, Name, Object, Quotas as ServiceQuotas, Lent, Refused as ServiceRefused, BadKind}
use Rattle.budget_theorems.specs.Request.{shows_session_short}
use Rattle.budget_meter.specs.Outcomes.{grants, is_done, lacks_session, lacks, is_denied, is_unnamed}
use Rattle.budget_meter.specs.RequestTests.{is_granted}

abbrev pub Reads : Outcome → List ℕ → Type 0
Reads outcome text =
    (grants outcome ≡ is_granted text) × (is_done outcome ≡ bytes_eq text (codes "OK")) × (lacks_session outcome ≡ shows_session_short text)
    × (lacks outcome ≡ (bytes_eq text (refusal_name refusal.OutOfRam) || bytes_eq text (refusal_name refusal.OutOfCaps)))
    × (is_denied outcome ≡ bytes_eq text (refusal_name refusal.ServiceDenied)) × (is_unnamed outcome ≡ bytes_eq text (refusal_name refusal.InvalidSession))

refusal_reads : (why : Refusal) → Reads (Refused why) (refusal_name why)
refusal_reads refusal.BadLine = (refl, refl, refl, refl, refl, refl)
refusal_reads refusal.UnknownComponent = (refl, refl, refl, refl, refl, refl)
refusal_reads refusal.NotAScript = (refl, refl, refl, refl, refl, refl)
refusal_reads refusal.Gone = (refl, refl, refl, refl, refl, refl)
refusal_reads refusal.BadArgs = (refl, refl, refl, refl, refl, refl)
refusal_reads refusal.InvalidSize = (refl, refl, refl, refl, refl, refl)
refusal_reads refusal.InvalidCap = (refl, refl, refl, refl, refl, refl)
refusal_reads refusal.OutOfRam = (refl, refl, refl, refl, refl, refl)
refusal_reads refusal.OutOfCaps = (refl, refl, refl, refl, refl, refl)
refusal_reads refusal.RegionConflict = (refl, refl, refl, refl, refl, refl)
refusal_reads refusal.TooManyRegions = (refl, refl, refl, refl, refl, refl)
refusal_reads refusal.PageFault = (refl, refl, refl, refl, refl, refl)
refusal_reads refusal.TooManyChunks = (refl, refl, refl, refl, refl, refl)
refusal_reads refusal.ServiceDenied = (refl, refl, refl, refl, refl, refl)
refusal_reads refusal.InsufficientRamQuota = (refl, refl, refl, refl, refl, refl)
refusal_reads refusal.InsufficientCapQuota = (refl, refl, refl, refl, refl, refl)
refusal_reads refusal.InvalidSession = (refl, refl, refl, refl, refl, refl)

error_reads : (why : FileError) → Reads (Served (ServiceRefused why)) (file_reply (model.FileReply.Refused (model_error why)))
error_reads error.BadRequest = (refl, refl, refl, refl, refl, refl)
error_reads error.BadName = (refl, refl, refl, refl, refl, refl)
error_reads error.Exists = (refl, refl, refl, refl, refl, refl)
error_reads error.NotFound = (refl, refl, refl, refl, refl, refl)
error_reads error.Gap = (refl, refl, refl, refl, refl, refl)
error_reads error.TooLong = (refl, refl, refl, refl, refl, refl)
error_reads error.End = (refl, refl, refl, refl, refl, refl)
error_reads error.TooManyChunks = (refl, refl, refl, refl, refl, refl)
error_reads error.OutOfRam = (refl, refl, refl, refl, refl, refl)
error_reads error.OutOfCaps = (refl, refl, refl, refl, refl, refl)
error_reads error.InvalidSize = (refl, refl, refl, refl, refl, refl)
error_reads error.NoBuffer = (refl, refl, refl, refl, refl, refl)
error_reads error.BadRange = (refl, refl, refl, refl, refl, refl)

pub reads : (outcome : Outcome) (text : List ℕ) → IsText outcome text → Reads outcome text
reads (Selected selector) text is = subst (Reads (Selected selector)) (sym is) (refl, refl, refl, refl, refl, refl)
reads (Attached address) text is = subst (Reads (Attached address)) (sym is) (refl, refl, refl, refl, refl, refl)
reads Bytes text is = subst (Reads Bytes) (sym is) (refl, refl, refl, refl, refl, refl)
reads Done text is = subst (Reads Done) (sym is) (refl, refl, refl, refl, refl, refl)
reads (Quotas quotas) text is = subst (Reads (Quotas quotas)) (sym is) (refl, refl, refl, refl, refl, refl)
reads (Reserved reserve) text is = subst (Reads (Reserved reserve)) (sym is) (refl, refl, refl, refl, refl, refl)
reads (Served ServiceDone) text is = subst (Reads (Served ServiceDone)) (sym is) (refl, refl, refl, refl, refl, refl)
reads (Served (Count count)) text is = subst (Reads (Served (Count count))) (sym is) (refl, refl, refl, refl, refl, refl)
reads (Served ServiceBytes) text is = subst (Reads (Served ServiceBytes)) (sym is) (refl, refl, refl, refl, refl, refl)
reads (Served Name) text is = subst (Reads (Served Name)) (sym is) (refl, refl, refl, refl, refl, refl)
reads (Served Object) text is = subst (Reads (Served Object)) (sym is) (refl, refl, refl, refl, refl, refl)
reads (Served (ServiceQuotas quotas)) text is = subst (Reads (Served (ServiceQuotas quotas))) (sym is) (refl, refl, refl, refl, refl, refl)
reads (Served (Lent None)) text is = subst (Reads (Served (Lent None))) (sym is) (refl, refl, refl, refl, refl, refl)
reads (Served (Lent (Some selector))) text is = subst (Reads (Served (Lent (Some selector)))) (sym is) (refl, refl, refl, refl, refl, refl)
reads (Served (ServiceRefused why)) text is = subst (Reads (Served (ServiceRefused why))) (sym is) (error_reads why)
reads (Served BadKind) text is = subst (Reads (Served BadKind)) (sym is) (refl, refl, refl, refl, refl, refl)
reads (Refused why) text is = subst (Reads (Refused why)) (sym is) (refusal_reads why)
