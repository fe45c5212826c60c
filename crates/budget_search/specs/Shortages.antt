-- The replies that show a shortage of quota.
use Rattle.std.specs.Prelude.{ℕ, List}
use Rattle.trade_base.specs.Refusal.{refusal_name}
use Rattle.trade_base.specs.declared.refusal.Refusal.TheVariants as refusal
use Rattle.own_model.specs.FileText.{file_reply}
use Rattle.own_model.specs.FileText as files
use Rattle.own_model.specs.FileText.FileReply.{Refused}
use Rattle.budget_search.specs.declared.trial.Shortage.{Shortage}
use Rattle.budget_search.specs.declared.trial.Shortage.TheVariants.{Ram, Caps, SessionRam, SessionCaps, DonatedRam, DonatedCaps}

-- what the caller is answered if its own account, or that of its session, is short of this quota, or its donation is too small
abbrev pub shortage_reply : Shortage → List ℕ
shortage_reply Ram = refusal_name refusal.OutOfRam
shortage_reply Caps = refusal_name refusal.OutOfCaps
shortage_reply SessionRam = file_reply (Refused files.FileError.OutOfRam)
shortage_reply SessionCaps = file_reply (Refused files.FileError.OutOfCaps)
shortage_reply DonatedRam = refusal_name refusal.InsufficientRamQuota
shortage_reply DonatedCaps = refusal_name refusal.InsufficientCapQuota
