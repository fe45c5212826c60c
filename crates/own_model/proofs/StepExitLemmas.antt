-- Exits, and what all other calls leave.
use Rattle.std.proofs.lemmas.Bool.Decides.{nat_tests}
use Rattle.std.proofs.Common.{arith, rules, ◌≡◌, Bool, true, false, cond, [], ◌∷◌, refl, sym, ap, ◌∙◌, true≢false}
use Rattle.std.specs.Prelude.{Option, Some, None, is_none}
use Rattle.trade_base.specs.declared.refusal.Refusal.{Refusal}
use Rattle.trade_base.specs.declared.refusal.Refusal.TheVariants.{Gone}
use Rattle.own_model.proofs.StepLemmas.{KeptByEffects, KeptByReserve, KeptBySessions}
use Rattle.own_model.proofs.StepTableLemmas.{goes_on}
use Rattle.own_model.specs.Call.{Call, is_exit}
use Rattle.own_model.specs.Call.Call.{Exit}
use Rattle.own_model.specs.Theorems.{ExitsAreDone, ExitedAreRefused, ExitedStay, ExitsAlone, ExitsEndAll}
use Rattle.own_model.specs.OwnState.{OwnState}
use Rattle.own_model.specs.OwnStep.{own_step, own_run, entry_step, exits, exited, exited_state, unless, turned_away}
use Rattle.own_model.specs.StartList.{Entry, Kind}
use Rattle.own_model.specs.StartList.Kind.{Script, Server, Init}

-- a call that ends its caller is an exit
exit_is : (call : Call) → is_exit call ≡ true → Exit ≡ call
exit_is Exit is = refl
exit_is call is = absurd (true≢false (sym is))

-- an exit is done or turned away
done_or_not : (P : Bool → OwnState → Type 0) (s : OwnState) (why : Option Refusal) → P true exited_state → P false s → P (is_none why) (unless why s exited).next
done_or_not P s (Some refusal) gone same = same
done_or_not P s None gone same = gone

-- what holds after each call that isn't an exit, of who has exited, and where nothing is changed, holds after each call
pub by_exit : (P : Bool → OwnState → Type 0) (entry : Entry) (call : Call) (s : OwnState) →
    (is_exit call ≡ false → P false (own_step entry call s).next) → P true exited_state → P false s → P (exits entry call s) (own_step entry call s).next
by_exit P entry call s on gone same = search (rules, exit_is, done_or_not)

-- a script that isn't gone exits
pub exits_done : ExitsAreDone
exits_done entry s script here = ap (λ kind. unless (turned_away kind s) s exited) script ∙ ap (λ b. unless (cond b (Some Gone) None) s exited) here

-- one that is gone is turned away
pub gone_turned : ExitedAreRefused
gone_turned entry call s script gone = cc

-- who is gone is left, whatever it is
left_by : (kind : Kind) (entry : Entry) (call : Call) (s : OwnState) → s.gone ≡ true → (unless (turned_away kind s) s (entry_step entry call s)).next ≡ s
left_by Server entry call s gone = refl
left_by Init entry call s gone = refl
left_by Script entry call s gone = ap (λ b. (unless (cond b (Some Gone) None) s (entry_step entry call s)).next) gone

pub gone_left : (entry : Entry) (call : Call) (s : OwnState) → s.gone ≡ true → (own_step entry call s).next ≡ s
gone_left entry call s gone = left_by entry.kind entry call s gone

-- and so after any calls
pub gone_stays : ExitedStay
gone_stays entry [] s gone = refl
gone_stays entry (call ∷ calls) s gone = ap (own_run entry calls) (gone_left entry call s gone) ∙ gone_stays entry calls s gone

-- an exit that is done is one of a script that isn't gone
may_exit : (kind : Kind) (s : OwnState) → is_none (turned_away kind s) ≡ true → (kind ≡ Script) × (s.gone ≡ false)
may_exit Server s done = absurd (true≢false (sym done))
may_exit Init s done = absurd (true≢false (sym done))
may_exit Script s done = (refl, elim s.gone as (λ b. is_none (cond b (Some Gone) None) ≡ true → b ≡ false) [ true ↦ λ e. absurd (true≢false (sym e)) | false ↦ λ _. refl ] done)

-- and ends all
pub exits_end_all : ExitsEndAll
exits_end_all entry calls call s done = grind (arith, nat_tests, may_exit, exits_done, gone_stays, gone_turned)

-- ---- only exits end

abbrev GoneAlike : OwnState → OwnState → Type 0
GoneAlike s t = t.gone ≡ s.gone

effects_alike : (s : OwnState) → KeptByEffects (GoneAlike s) s
effects_alike s = search rules

sessions_alike : (s : OwnState) → KeptBySessions (GoneAlike s) s
sessions_alike s = search rules

reserve_alike : (s : OwnState) → KeptByReserve (GoneAlike s) s
reserve_alike s = search rules

-- a call that isn't an exit makes nobody gone
pub alike_on : (entry : Entry) (call : Call) (s : OwnState) → is_exit call ≡ false → (own_step entry call s).next.gone ≡ s.gone
alike_on entry call s on = goes_on (GoneAlike s) s refl (effects_alike s) entry call (λ _. reserve_alike s) (sessions_alike s) on

-- nor does one that is turned away
pub exits_alone : ExitsAlone
exits_alone entry call s = by_exit (λ ends t. t.gone ≡ cond ends true s.gone) entry call s (alike_on entry call s) refl refl
