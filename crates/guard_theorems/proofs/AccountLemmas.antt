-- One server's account and one session's guard.
use Rattle.std.proofs.Common.{◌≡◌, ℕ, ◌+◌, ◌-◌, ◌≤◌, Bool, true, false, min, ap, arith, cond}
use Rattle.std.proofs.lemmas.Bool.Decides.{nat_tests}
use Rattle.std.specs.Prelude.{None, is_none}
use Rattle.own_model.proofs.SessionLemmas.{large_enough}
use Rattle.own_model.specs.Account.{Account, Fits, WithinLimits, shortage, credited, opened}
use Rattle.own_model.specs.Amounts.{no_amounts}
use Rattle.own_model.specs.Donation.{raised}
use Rattle.own_model.specs.Session.{too_small, session_ram, session_caps}
use Rattle.guard_theorems.specs.Guarded.{cover, limits_of, donation_back}

-- an account that covers so much lacks nothing
pub lacks_nothing : (a : Account) (ram caps : ℕ) → Fits a ram caps → shortage a ram caps ≡ None
lacks_nothing a ram caps fits = grind (arith, nat_tests, fits.ram_fits, fits.caps_fit)

-- an account pays for a guard: it has what the guard uses in use, and leaves what the guard leaves
pub record Backs (account guard : Account) : Type 0 where
  pub ram_used : guard.ram_used ≤ account.ram_used
  pub caps_used : guard.caps_used ≤ account.caps_used
  pub ram_left : account.ram_used + (guard.ram_limit - guard.ram_used) ≤ account.ram_limit
  pub caps_left : account.caps_used + (guard.caps_limit - guard.caps_used) ≤ account.caps_limit

-- so both cover what the guard covers
pub cover_is_guard : (account guard : Account) → WithinLimits guard → Backs account guard → cover true guard account ≡ guard
cover_is_guard account guard within backs =
    let ram : guard.ram_used + min (guard.ram_limit - guard.ram_used) (account.ram_limit - account.ram_used) ≡ guard.ram_limit = omega (arith, within.ram, backs.ram_left) in
    let caps : guard.caps_used + min (guard.caps_limit - guard.caps_used) (account.caps_limit - account.caps_used) ≡ guard.caps_limit = omega (arith, within.caps, backs.caps_left) in
    λ i. record guard { ram_limit = ram i; caps_limit = caps i }

-- and a close is covered
pub close_covered : (account guard : Account) → WithinLimits guard → Backs account guard →
    shortage (credited account guard.ram_used guard.caps_used) guard.ram_limit guard.caps_limit ≡ None
close_covered account guard within backs = lacks_nothing (credited account guard.ram_used guard.caps_used) guard.ram_limit guard.caps_limit (record {
  ram_fits = omega (arith, within.ram, backs.ram_used, backs.ram_left);
  caps_fit = omega (arith, within.caps, backs.caps_used, backs.caps_left);
})

-- its donation comes back
pub all_back : (account guard : Account) → WithinLimits guard → Backs account guard →
    donation_back guard (credited account guard.ram_used guard.caps_used) ≡ limits_of guard
all_back account guard within backs = ap (λ o. cond (is_none o) (limits_of guard) no_amounts) (close_covered account guard within backs)

-- a new session is covered, once its donation has come, with guards or without
pub open_covered : (guards : Bool) (account : Account) (ram caps : ℕ) → WithinLimits account → too_small ram caps ≡ None →
    shortage (cover guards (opened ram caps) (raised account ram caps)) session_ram session_caps ≡ None
open_covered true account ram caps within enough =
    let large = large_enough ram caps enough in
    lacks_nothing (cover true (opened ram caps) (raised account ram caps)) session_ram session_caps
    (record { ram_fits = omega (arith, within.ram, large.0); caps_fit = omega (arith, within.caps, large.1) })
open_covered false account ram caps within enough =
    let large = large_enough ram caps enough in
    lacks_nothing (cover false (opened ram caps) (raised account ram caps)) session_ram session_caps
    (record { ram_fits = omega (arith, within.ram, large.0); caps_fit = omega (arith, within.caps, large.1) })
