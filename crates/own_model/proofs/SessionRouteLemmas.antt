-- Calls that are of no session lead along no route.
use Rattle.std.proofs.Common.{◌≡◌, false, refl, true≢false}
use Rattle.own_model.specs.Call.{Call, is_of_session}
use Rattle.own_model.specs.Call.Call.{Alloc, Free, Attach, AttachAt, Detach, Peek, Poke, Capalloc, Capfree, New, Del, Snew, Sdel, Quota, Reserve, Request, Yield, Open, Upgrade, CallSession, Close, Exit}
use Rattle.own_model.specs.OwnState.{OwnState}
use Rattle.own_model.specs.OwnStep.{entry_step, script_step}
use Rattle.own_model.specs.StartList.{Entry}

-- what a call that is of no session does hangs on no entry
pub routes_alike : (entry : Entry) (call : Call) (s : OwnState) → is_of_session call ≡ false → entry_step entry call s ≡ script_step call s
routes_alike entry (Alloc n) s other = refl
routes_alike entry (Free of) s other = refl
routes_alike entry (Attach of) s other = refl
routes_alike entry (AttachAt of address) s other = refl
routes_alike entry (Detach address) s other = refl
routes_alike entry (Peek address count) s other = refl
routes_alike entry (Poke address bytes) s other = refl
routes_alike entry Capalloc s other = refl
routes_alike entry (Capfree of) s other = refl
routes_alike entry (New n) s other = refl
routes_alike entry (Del address) s other = refl
routes_alike entry (Snew n) s other = refl
routes_alike entry (Sdel address) s other = refl
routes_alike entry Quota s other = refl
routes_alike entry Reserve s other = refl
routes_alike entry (Request text) s other = refl
routes_alike entry (Yield text) s other = refl
routes_alike entry Exit s other = refl
routes_alike entry (Open service text) s other = absurd (true≢false other)
routes_alike entry (Upgrade of text) s other = absurd (true≢false other)
routes_alike entry (CallSession of request) s other = absurd (true≢false other)
routes_alike entry (Close of) s other = absurd (true≢false other)
