-- What outcomes state of the tests of an account.
use Rattle.std.specs.Prelude.{Bool, true, false}
use Rattle.core_calls.specs.declared.file_error.FileError.TheVariants.{OutOfRam as SessionOutOfRam, OutOfCaps as SessionOutOfCaps}
use Rattle.core_calls.specs.declared.outcome.Outcome.{Outcome}
use Rattle.core_calls.specs.declared.outcome.Outcome.TheVariants.{Served, Refused}
use Rattle.core_calls.specs.declared.outcome.ServiceOutcome.TheVariants.{Done, Refused as ServiceRefused, BadKind}
use Rattle.trade_base.specs.declared.refusal.Refusal.{Refusal}
use Rattle.trade_base.specs.declared.refusal.Refusal.TheVariants.{OutOfRam, OutOfCaps, ServiceDenied, InvalidSession}

-- a service did what was requested
abbrev pub grants : Outcome → Bool
grants (Served (ServiceRefused error)) = false
grants (Served BadKind) = false
grants (Served served) = true
grants outcome = false

-- it did, and replies nothing more
abbrev pub is_done : Outcome → Bool
is_done (Served Done) = true
is_done outcome = false

-- the session's account is short of quota
abbrev pub lacks_session : Outcome → Bool
lacks_session (Served (ServiceRefused SessionOutOfRam)) = true
lacks_session (Served (ServiceRefused SessionOutOfCaps)) = true
lacks_session outcome = false

-- the caller's account is short of quota
abbrev pub lacks : Outcome → Bool
lacks (Refused OutOfRam) = true
lacks (Refused OutOfCaps) = true
lacks outcome = false

-- no route leads to a provider: the service is denied
abbrev pub is_denied : Outcome → Bool
is_denied (Refused ServiceDenied) = true
is_denied outcome = false

-- no session has the selector
abbrev pub is_unnamed : Outcome → Bool
is_unnamed (Refused InvalidSession) = true
is_unnamed outcome = false
