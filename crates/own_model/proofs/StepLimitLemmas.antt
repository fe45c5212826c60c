-- What a call leaves of limits.
use Rattle.std.proofs.lemmas.Bool.Decides.{nat_tests}
use Rattle.std.proofs.Common.{rules, ◌≡◌, ℕ, false, cond, lit≤, Option, Some, None, List, [], ◌∷◌, refl, sym, ap, ◌∙◌, true≢false, arith, set}
use Rattle.std.proofs.lemmas.List.{set-get_or}
use Rattle.std.specs.FinMap.{get, insert}
use Rattle.own_model.proofs.LentLemmas.{lent_still, total_lent}
use Rattle.trade_base.specs.declared.refusal.Refusal.{Refusal}
use Rattle.trade_base.specs.declared.refusal.Refusal.TheVariants.{OutOfCaps}
use Rattle.own_model.proofs.StepLemmas.{KeptBySessions, KeptByEffects, KeptByReserve, covers, short_of_caps, accepted_size, accepted_block, accepted_growth}
use Rattle.own_model.specs.Account.{Account, WithinLimits, shortage}
use Rattle.own_model.specs.Call.{Call, is_exit}
use Rattle.own_model.specs.Call.Call.{Capalloc}
use Rattle.own_model.specs.OwnState.{OwnState, Object, EachSession, new_selector, object_with, buffer_of, bytes_of_buffer}
use Rattle.own_model.specs.OwnStep.{exited_state, own_step, own_run, entry_step, script_step, turned_away, unless, cap_allocated, selectors_lent, session_called, session_closed}
use Rattle.own_model.specs.Theorems.{ServersStay, StepKeepsLimits, OthersKeepOwnLimits, ExitsReturnLimits}
use Rattle.own_model.specs.Donation.{raised}
use Rattle.own_model.specs.Reply.Reply.{Refused}
use Rattle.own_model.proofs.NewSelector.{new_selector_free}
use Rattle.own_model.proofs.ServiceLemmas.{IsWithin, serve_keeps, serve_within}
use Rattle.own_model.proofs.SessionLemmas.{donation_covered, large_enough, effects_each, reserve_each, sessions_each, gone_each}
use Rattle.own_model.proofs.Totals.{total-empty, total-insert_new, total-insert_same, total-insert_at, total-remove}
use Rattle.own_model.specs.Limits.{ram_with, caps_with, ram_limits, caps_limits, init_after, inits_after, AreWithinLimits}
use Rattle.own_model.specs.NatMap.{total}
use Rattle.own_model.specs.OwnState.Object.{Dataspace, RpcObject, OpenSession, Buffer}
use Rattle.own_model.specs.Session.{Session, served}
use Rattle.own_model.specs.StartList.{Entry, init_at, no_account}
use Rattle.own_model.proofs.StepTableLemmas.{step_keeps, others_go_on, goes_on}
use Rattle.own_model.proofs.StepExitLemmas.{by_exit}

-- every call leaves a server
pub server_stays : ServersStay
server_stays entry [] s server = refl
server_stays entry (call ∷ calls) s server =
    ap (λ kind. own_run entry calls (unless (turned_away kind s) s (entry_step entry call s)).next) server ∙ server_stays entry calls s server

-- what is told of an RPC object that is refused is why
capalloc_told : (why : Option Refusal) (s : OwnState) (refusal : Refusal) → (unless why s (cap_allocated s)).reply ≡ Refused refusal → Some refusal ≡ why
capalloc_told (Some other) s refusal told = cc
capalloc_told None s refusal told = absurd (cc)

-- an account within its limits is refused an RPC object for want of capabilities alone
pub capalloc_short : (s : OwnState) (refusal : Refusal) → WithinLimits s.account → (script_step Capalloc s).reply ≡ Refused refusal → refusal ≡ OutOfCaps
capalloc_short s refusal within told = short_of_caps s.account 1 refusal within (capalloc_told (shortage s.account 0 1) s refusal told)

-- nothing that a call can do overdraws an account
effects_within : (s : OwnState) → WithinLimits s.account → KeptByEffects (λ t. WithinLimits t.account) s
effects_within s within = search (rules, covers, accepted_size, accepted_growth, accepted_block)

-- nor can a call of a session
pub sessions_within : (s : OwnState) → WithinLimits s.account → KeptBySessions (λ t. WithinLimits t.account) s
sessions_within s within = search (rules, donation_covered, covers)

-- nor can a request or a yield
reserve_within : (s : OwnState) → WithinLimits s.account → KeptByReserve (λ t. WithinLimits t.account) s
reserve_within s within = search (rules, covers)

-- who has exited has nothing to overdraw
gone_within : WithinLimits exited_state.account
gone_within = record { ram = lit≤ tt; caps = lit≤ tt }

-- no call overdraws an account
pub step_within : (entry : Entry) (call : Call) (s : OwnState) → WithinLimits s.account → WithinLimits (own_step entry call s).next.account
step_within entry call s within = step_keeps (λ t. WithinLimits t.account) s within (effects_within s within) (reserve_within s within) (sessions_within s within) gone_within entry call

-- no calls do
pub run_within : (entry : Entry) (calls : List Call) (s : OwnState) → WithinLimits s.account → WithinLimits (own_run entry calls s).account
run_within entry [] s within = within
run_within entry (call ∷ calls) s within = run_within entry calls (own_step entry call s).next (step_within entry call s within)

-- a new session is within its limits, and one that is within them stays so
sessions_each_within : (s : OwnState) → EachSession IsWithin s → KeptBySessions (EachSession IsWithin) s
sessions_each_within = search (rules, sessions_each, large_enough, serve_within)

-- no call overdraws an account of the component or of a session of it
pub step_all_within : (entry : Entry) (call : Call) (s : OwnState) → AreWithinLimits s → AreWithinLimits (own_step entry call s).next
step_all_within entry call s h = record {
  own = step_within entry call s h.own;
  sessions = step_keeps (EachSession IsWithin) s h.sessions (effects_each IsWithin s h.sessions) (reserve_each IsWithin s h.sessions) (sessions_each_within s h.sessions) (gone_each IsWithin) entry call;
}

-- nor are those of who has nothing
pub gone_within_all : AreWithinLimits exited_state
gone_within_all = record { own = gone_within; sessions = gone_each IsWithin }

-- a state with the limits of another
abbrev SameLimits : OwnState → OwnState → Type 0
SameLimits s t = (t.account.ram_limit ≡ s.account.ram_limit) × (t.account.caps_limit ≡ s.account.caps_limit)

-- nothing that a call can do changes the limits
effects_stay : (s : OwnState) → KeptByEffects (SameLimits s) s
effects_stay s = search rules

-- the limits after a call that is of no session, nor a request or a yield
pub limits_stay : OthersKeepOwnLimits
limits_stay entry call s other left =
    by_exit (λ ends t. (t.account.ram_limit ≡ cond ends 0 s.account.ram_limit) × (t.account.caps_limit ≡ cond ends 0 s.account.caps_limit)) entry call s
    (others_go_on (SameLimits s) s (refl, refl) (effects_stay s) entry call (λ is. absurd (true≢false (sym is ∙ left))) other) (refl, refl) (refl, refl)

-- ---- limits with those of sessions

-- the same limits in all
abbrev SameInAll : OwnState → OwnState → Type 0
SameInAll s t = (ram_limits t ≡ ram_limits s) × (caps_limits t ≡ caps_limits s)

-- bytes put over others count for nothing
counts-with : (object : Object) (offset : ℕ) (part : List ℕ) →
    (ram_with (object_with object offset part) ≡ ram_with object) × (caps_with (object_with object offset part) ≡ caps_with object)
counts-with (Dataspace bytes) offset part = (refl, refl)
counts-with RpcObject offset part = (refl, refl)
counts-with (OpenSession session) offset part = (refl, refl)
counts-with (Buffer session bytes) offset part = (refl, refl)

-- another object that counts nothing
adds_nothing : (s : OwnState) (object : Object) → ram_with object ≡ 0 → caps_with object ≡ 0 →
    (total ram_with (insert s.selectors (new_selector s.selectors) object) ≡ total ram_with s.selectors)
    × (total caps_with (insert s.selectors (new_selector s.selectors) object) ≡ total caps_with s.selectors)
adds_nothing s object ram caps = grind (arith, nat_tests, new_selector_free, total-insert_new)

-- so calls that are of no session change no limits
effects_in_all : (s : OwnState) → KeptByEffects (SameInAll s) s
effects_in_all s = search (rules, adds_nothing, total-remove, counts-with, total-insert_same)

-- a request leaves limits, whatever it does to a buffer
serve_moves : (s : OwnState) (q : ℕ) (x : Session) (request : List ℕ) → get s.selectors q ≡ Some (OpenSession x) → SameInAll s (session_called q (Some x) request s).next
serve_moves s q x request there =
    let buffer = buffer_of q s.selectors in
    let o = served (bytes_of_buffer buffer) x request in
    let lent = selectors_lent q buffer o.buffer s.selectors in
    let still = lent_still q s.selectors buffer o.buffer refl q (OpenSession x) there refl in
    let same = serve_keeps x.state (bytes_of_buffer buffer) x request in (
      omega (arith, total-insert_same ram_with lent q (OpenSession o.session) (OpenSession x) still same.0, total_lent q s.selectors ram_with (λ of bytes. refl) buffer o.buffer refl),
      omega (arith, total-insert_same caps_with lent q (OpenSession o.session) (OpenSession x) still same.1, total_lent q s.selectors caps_with (λ of bytes. refl) buffer o.buffer refl),
    )

-- and a close moves those of the session
close_moves : (s : OwnState) (q : ℕ) (x : Session) → get s.selectors q ≡ Some (OpenSession x) → SameInAll s (session_closed q (Some x) s).next
close_moves s q x there =
    let buffer = buffer_of q s.selectors in
    let lent = selectors_lent q buffer None s.selectors in
    let still = lent_still q s.selectors buffer None refl q (OpenSession x) there refl in (
      omega (arith, total-remove ram_with lent q (OpenSession x) still, total_lent q s.selectors ram_with (λ of bytes. refl) buffer None refl),
      omega (arith, total-remove caps_with lent q (OpenSession x) still, total_lent q s.selectors caps_with (λ of bytes. refl) buffer None refl),
    )

-- calls of sessions move limits
sessions_move : (s : OwnState) → KeptBySessions (SameInAll s) s
sessions_move s = search (rules, new_selector_free, donation_covered, total-insert_new, covers, total-insert_at, serve_moves, close_moves)

-- and so do requests and yields
reserve_moves : (s : OwnState) → KeptByReserve (SameInAll s) s
reserve_moves s = search (rules, covers)

-- a call that isn't an exit changes no limits, or moves some
pub limits_move : (entry : Entry) (call : Call) (s : OwnState) → is_exit call ≡ false → SameInAll s (own_step entry call s).next
limits_move entry call s on = goes_on (SameInAll s) s (refl, refl) (effects_in_all s) entry call (λ _. reserve_moves s) (sessions_move s) on

-- who has exited has none
pub none_left : (ram_limits exited_state ≡ 0) × (caps_limits exited_state ≡ 0)
none_left = (omega (arith, total-empty ram_with), omega (arith, total-empty caps_with))

-- so each call leaves the limits, but for an exit that is done
pub limits_left : StepKeepsLimits
limits_left entry call s = search (rules, by_exit, limits_move, none_left)

-- ---- what inits are given

-- nothing, where the limits are the same in all
pub init_stays : (init : Account) (s t : OwnState) → SameInAll s t → init_after init s t ≡ init
init_stays init s t same = grind (arith, nat_tests)

-- so no init is
pub inits_stay : (home : ℕ) (inits : List Account) (s t : OwnState) → SameInAll s t → inits_after home inits s t ≡ inits
inits_stay home inits s t same = ap (set inits home) (init_stays (init_at inits home) s t same) ∙ set-get_or inits home no_account

-- and all, where none are left
pub init_gains : (init : Account) (s : OwnState) → init_after init s exited_state ≡ raised init (ram_limits s) (caps_limits s)
init_gains init s = grind (arith, nat_tests, none_left)

pub limits_returned : ExitsReturnLimits
limits_returned entry call init s =
    by_exit (λ ends t. init_after init s t ≡ cond ends (raised init (ram_limits s) (caps_limits s)) init) entry call s
    (λ on. init_stays init s (own_step entry call s).next (limits_move entry call s on)) (init_gains init s) (init_stays init s s (refl, refl))
