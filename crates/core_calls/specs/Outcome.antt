-- Which text is the rendering of an outcome.
use Rattle.std.specs.Prelude.{◌≡◌, List, ℕ, ◌++◌, codes, decimal, drop, Some, None}
use Rattle.own_model.specs.FileText as model
use Rattle.own_model.specs.FileText.{file_reply}
use Rattle.own_model.specs.ObjectText as objects
use Rattle.own_model.specs.ObjectText.{object_reply}
use Rattle.own_model.specs.Reply.{Reply, reply_text}
use Rattle.core_calls.specs.FileError.{model_error}
use Rattle.core_calls.specs.Quotas.{quotas_account, reserve_amounts}
use Rattle.core_calls.specs.declared.outcome.Outcome.{Outcome}
use Rattle.core_calls.specs.declared.outcome.Outcome.TheVariants.{Selected, Attached, Bytes, Done, Quotas, Reserved, Served, Refused}
use Rattle.core_calls.specs.declared.outcome.ServiceOutcome.{ServiceOutcome}
use Rattle.core_calls.specs.declared.outcome.ServiceOutcome.TheVariants.{Done as ServiceDone, Count, Bytes as ServiceBytes, Name, Object, Quotas as ServiceQuotas, Lent, Refused as ServiceRefused, BadKind}

-- the rendering of a service's outcome: bytes, a name, and an object's kind, name and units are those of the text itself
abbrev pub service_rendering : ServiceOutcome → List ℕ → List ℕ
service_rendering ServiceDone text = file_reply model.FileReply.Done
service_rendering (Count count) text = file_reply (model.FileReply.Count count)
service_rendering ServiceBytes text = codes "OK " ++ drop 3 text
service_rendering Name text = file_reply (model.FileReply.Named (drop 3 text))
service_rendering Object text = codes "OK " ++ drop 3 text
service_rendering (ServiceQuotas quotas) text = file_reply (model.FileReply.Quotas (quotas_account quotas))
service_rendering (Lent None) text = file_reply model.FileReply.Lent
service_rendering (Lent (Some selector)) text = file_reply model.FileReply.Lent ++ decimal selector.0
service_rendering (ServiceRefused error) text = file_reply (model.FileReply.Refused (model_error error))
service_rendering BadKind text = object_reply (objects.ObjectReply.Refused objects.ObjectError.BadKind)

-- the rendering of an outcome, likewise
abbrev pub rendering : Outcome → List ℕ → List ℕ
rendering (Selected selector) text = reply_text (Reply.Selected selector.0)
rendering (Attached address) text = reply_text (Reply.Attached address)
rendering Bytes text = codes "data " ++ drop 5 text
rendering Done text = reply_text Reply.Done
rendering (Quotas quotas) text = reply_text (Reply.Quotas (quotas_account quotas))
rendering (Reserved reserve) text = reply_text (Reply.Reserved (reserve_amounts reserve))
rendering (Served served) text = service_rendering served text
rendering (Refused refusal) text = reply_text (Reply.Refused refusal)

-- a text is the rendering of an outcome
abbrev pub IsText : Outcome → List ℕ → Type 0
IsText outcome text = text ≡ rendering outcome text
