-- What an open asks of its caller's account, by what it is answered.
use Rattle.std.proofs.Common.{◌≡◌, ℕ, ◌+◌, Bool, true, false, cond, List, [], ◌∷◌, nat_lt, Option, Some, None, refl, ap, ◌∙◌}
use Rattle.std.specs.Option.{option_or}
use Rattle.std.specs.Str.{bytes_eq}
use Rattle.trade_base.specs.Refusal.{refusal_name}
use Rattle.trade_base.specs.declared.refusal.Refusal.TheVariants.{OutOfRam, OutOfCaps, ServiceDenied, InsufficientRamQuota, InsufficientCapQuota}
use Rattle.own_model.specs.OwnState.{OwnState}
use Rattle.own_model.specs.OwnStep.{opened_by, session_opened, unless}
use Rattle.own_model.specs.Reply.{reply_text}
use Rattle.own_model.specs.Routes.{Level, ServerAt, provider}
use Rattle.own_model.specs.Session.{Wish, resolved_request, routed_request, session_ram, session_caps}
use Rattle.own_model.specs.SessionArgs.{Arguments}
use Rattle.budget_theorems.specs.Test.{arguments_tests, test_of, donation_tests}
use Rattle.budget_meter.specs.NeededAmounts.{amount_tests}
use Rattle.budget_meter.specs.declared.budget.Budget.{Budget}

-- a reply is that no route leads to a provider
abbrev is_denied : List ℕ → Bool
is_denied reply = bytes_eq reply (refusal_name ServiceDenied)

module _ (s : OwnState) (asked : Option Budget) (reply : List ℕ) (denied : is_denied reply ≡ true → asked ≡ None) where
  -- with a provider it is answered otherwise
  granted_by : (wish : Wish) (a b c d : Bool) →
      is_denied (reply_text (unless (option_or (cond a (Some OutOfRam) (cond b (Some OutOfCaps) None)) (cond c (Some InsufficientRamQuota) (cond d (Some InsufficientCapQuota) None))) s (session_opened wish s)).reply) ≡ false
  granted_by wish true b c d = refl
  granted_by wish false true c d = refl
  granted_by wish false false true d = refl
  granted_by wish false false false true = refl
  granted_by wish false false false false = refl

  routed : (client : List ℕ) (more : Arguments) (server : Option ServerAt) → reply ≡ reply_text (opened_by (routed_request client more server) s).reply →
      (is_denied reply ≡ false → amount_tests asked ≡ test_of more.ram more.caps ∷ []) → amount_tests asked ≡ donation_tests (routed_request client more server)
  routed client more None told named = ap amount_tests (denied (ap is_denied told))
  routed client more (Some server) told named =
      named (ap is_denied told ∙ granted_by _
      (nat_lt s.account.ram_limit (s.account.ram_used + more.ram)) (nat_lt s.account.caps_limit (s.account.caps_used + more.caps))
      (nat_lt more.ram session_ram) (nat_lt more.caps session_caps))

  pub open_asks : (client : List ℕ) (routes : List Level) (service : List ℕ) (arguments : Option Arguments) →
      reply ≡ reply_text (opened_by (resolved_request client routes service arguments) s).reply →
      (is_denied reply ≡ false → amount_tests asked ≡ arguments_tests arguments) → amount_tests asked ≡ donation_tests (resolved_request client routes service arguments)
  open_asks client routes service None told named = named (ap is_denied told)
  open_asks client routes service (Some more) told named = routed client more (provider routes service more.label) told named
