-- What calls leave of a reserve.
use Rattle.std.proofs.lemmas.Bool.Decides.{nat_tests}
use Rattle.std.proofs.Common.{rules, ◌≡◌, ℕ, ◌+◌, ◌&&◌, arith, cond, refl, sym, ◌∙◌, true≢false}
use Rattle.std.specs.Prelude.{is_none}
use Rattle.own_model.proofs.StepExitLemmas.{by_exit}
use Rattle.own_model.proofs.StepLemmas.{KeptByEffects, KeptByReserve, KeptBySessions, covers}
use Rattle.own_model.proofs.StepTableLemmas.{others_go_on, goes_on}
use Rattle.own_model.specs.Account.{Account, shortage, parted_with}
use Rattle.own_model.specs.OwnState.{OwnState}
use Rattle.own_model.specs.Reserve.{no_reserve}
use Rattle.own_model.specs.ReserveTheorems.{OthersKeepReserve, LimitsAreMoved}

-- a state with the reserve of another
abbrev SameReserve : OwnState → OwnState → Type 0
SameReserve s t = t.reserve ≡ s.reserve

-- neither calls of no session nor those of one change it
effects_leave : (s : OwnState) → KeptByEffects (SameReserve s) s
effects_leave s = search rules

sessions_leave : (s : OwnState) → KeptBySessions (SameReserve s) s
sessions_leave s = search rules

pub others_kept : OthersKeepReserve
others_kept entry call s left =
    by_exit (λ ends t. t.reserve ≡ cond ends no_reserve s.reserve) entry call s
    (goes_on (SameReserve s) s refl (effects_leave s) entry call (λ is. absurd (true≢false (sym is ∙ left))) (sessions_leave s)) refl refl

-- a state with as many limits, those of the reserve among them
abbrev SameLimits : OwnState → OwnState → Type 0
SameLimits s t =
    (t.account.ram_limit + t.reserve.ram ≡ s.account.ram_limit + s.reserve.ram)
    × (t.account.caps_limit + t.reserve.caps ≡ s.account.caps_limit + s.reserve.caps)

effects_stay : (s : OwnState) → KeptByEffects (SameLimits s) s
effects_stay s = search rules

-- requests and yields move them
reserve_moves : (s : OwnState) → KeptByReserve (SameLimits s) s
reserve_moves s = search (rules, covers)

pub limits_moved : LimitsAreMoved
limits_moved entry call s other =
    by_exit
    (λ ends t. (t.account.ram_limit + t.reserve.ram ≡ cond ends 0 (s.account.ram_limit + s.reserve.ram))
    × (t.account.caps_limit + t.reserve.caps ≡ cond ends 0 (s.account.caps_limit + s.reserve.caps))) entry call s
    (others_go_on (SameLimits s) s (refl, refl) (effects_stay s) entry call (λ _. reserve_moves s) other) (refl, refl) (refl, refl)

-- ---- two amounts one after the other

-- an account covers one amount, and what is left of it another, exactly where it covers both together
pub covered_in_turn : (a : Account) (ram caps more_ram more_caps : ℕ) →
    is_none (shortage a (ram + more_ram) (caps + more_caps)) ≡ (is_none (shortage a ram caps) && is_none (shortage (parted_with a ram caps) more_ram more_caps))
covered_in_turn a ram caps more_ram more_caps = grind (arith, nat_tests)

-- and then it has parted with both
pub parted_in_turn : (a : Account) (ram caps more_ram more_caps : ℕ) →
    parted_with (parted_with a ram caps) more_ram more_caps ≡ parted_with a (ram + more_ram) (caps + more_caps)
parted_in_turn a ram caps more_ram more_caps = grind (arith, nat_tests)
