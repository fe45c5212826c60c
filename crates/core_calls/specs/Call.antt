-- A call as the model sees it.
use Rattle.std.specs.Prelude.{◌≡◌, ℕ, Bool, true, false, List, [], IsSome}
use Rattle.std.specs.Option.{unwrap_or}
use Rattle.own_model.specs.Call.{Call as Modelled, is_of_session, is_exit}
use Rattle.own_model.specs.Call.Call.{Alloc as ModelledAlloc, Free as ModelledFree, Attach as ModelledAttach, AttachAt as ModelledAttachAt, Detach as ModelledDetach, Peek as ModelledPeek, Poke as ModelledPoke, Capalloc as ModelledCapalloc, Capfree as ModelledCapfree, New as ModelledNew, Del as ModelledDel, Snew as ModelledSnew, Sdel as ModelledSdel, Quota as ModelledQuota, Reserve as ModelledReserve, Request as ModelledRequest, Yield as ModelledYield, Open as ModelledOpen, Upgrade as ModelledUpgrade, CallSession as ModelledCallSession, Close as ModelledClose, Exit as ModelledExit}
use Rattle.own_model.specs.Text.{bytes_of_hex}
use Rattle.core_calls.specs.declared.call.Call.{Call}
use Rattle.core_calls.specs.declared.call.Call.TheVariants.{Alloc, Free, Attach, AttachAt, Detach, Peek, Poke, Capalloc, Capfree, New, Del, Snew, Sdel, Quota, Reserve, Request, Yield, Open, Upgrade, CallSession, Close, Exit}

-- the bytes that hexadecimal digits denote
abbrev pub bytes_in : List ℕ → List ℕ
bytes_in hex = unwrap_or (bytes_of_hex hex) []

-- the model's value of a call
abbrev pub model_call : Call → Modelled
model_call (Alloc n) = ModelledAlloc n
model_call (Free selector) = ModelledFree selector
model_call (Attach selector) = ModelledAttach selector
model_call (AttachAt selector address) = ModelledAttachAt selector address
model_call (Detach address) = ModelledDetach address
model_call (Peek address count) = ModelledPeek address count
model_call (Poke address hex) = ModelledPoke address (bytes_in hex.now)
model_call Capalloc = ModelledCapalloc
model_call (Capfree selector) = ModelledCapfree selector
model_call (New n) = ModelledNew n
model_call (Del address) = ModelledDel address
model_call (Snew n) = ModelledSnew n
model_call (Sdel address) = ModelledSdel address
model_call Quota = ModelledQuota
model_call Reserve = ModelledReserve
model_call (Request args) = ModelledRequest args.now
model_call (Yield args) = ModelledYield args.now
model_call (Open service args) = ModelledOpen service.now args.now
model_call (Upgrade selector args) = ModelledUpgrade selector args.now
model_call (CallSession selector request) = ModelledCallSession selector request.now
model_call (Close selector) = ModelledClose selector
model_call Exit = ModelledExit

-- a call is of the reserve: it reads the reserve, or moves limits from it or to it
abbrev pub is_of_reserve : Modelled → Bool
is_of_reserve ModelledReserve = true
is_of_reserve (ModelledRequest text) = true
is_of_reserve (ModelledYield text) = true
is_of_reserve call = false

-- it is none of a session, none of the reserve, and no exit
pub record IsPlain (call : Call) : Type 0 where
  pub of_no_session : is_of_session (model_call call) ≡ false
  pub of_no_reserve : is_of_reserve (model_call call) ≡ false
  pub no_exit : is_exit (model_call call) ≡ false

-- a poke's text is hexadecimal digits
abbrev pub IsWellFormed : Call → Type 0
IsWellFormed (Poke address hex) = IsSome (bytes_of_hex hex.now)
IsWellFormed _ = Unit {0}
