-- Theorems on the buffer that a client shares with its sessions, as statements.
use Rattle.std.specs.Prelude.{◌≡◌, ◌≢◌, ◌⊎◌, ℕ, false, List, ◌++◌, length, codes, decimal, Option, Some, None, IsSome}
use Rattle.std.specs.Option.{option_map, unwrap_or}
use Rattle.std.specs.FinMap.{get}
use Rattle.own_model.specs.Call.{Call}
use Rattle.own_model.specs.Call.Call.{Poke, CallSession, Close}
use Rattle.own_model.specs.OwnState.{OwnState, Object, NamedBuffer, is_buffer_of, with_part, zeros, new_selector, buffer_of, bytes_of_buffer}
use Rattle.own_model.specs.OwnState.Object.{OpenSession, Buffer}
use Rattle.own_model.specs.OwnStep.{Outcome, own_step, own_run, script_step}
use Rattle.own_model.specs.Region.{Region, resolved}
use Rattle.own_model.specs.Reply.Reply.{Told}
use Rattle.own_model.specs.Session.{Session, Served, served}
use Rattle.own_model.specs.SessionTheorems.{is_of}
use Rattle.own_model.specs.Sound.{AreLent}
use Rattle.own_model.specs.StartList.{Entry, StartEntry, start_state}

-- no component starts with a buffer, so each is of an open session, which has no other
abbrev pub StartsLent : Type 0
StartsLent = (start : StartEntry) → AreLent (start_state start).selectors

-- and so it is after calls
abbrev pub RunKeepsLent : Type 0
RunKeepsLent = (entry : Entry) (calls : List Call) (s : OwnState) → AreLent s.selectors → AreLent (own_run entry calls s).selectors

-- a call pokes the buffer under a selector: it is a poke that is found in a region of it, and puts its bytes over the buffer's
pub record IsPoked (call : Call) (s next : OwnState) (selector q : ℕ) (bytes : List ℕ) : Type 0 where
  pub address : ℕ
  pub part : List ℕ
  pub offset : ℕ
  pub is_poke : call ≡ Poke address part
  pub finds : resolved s.regions address (length part) ≡ Some (selector, offset)
  pub poked : get next.selectors selector ≡ Some (Buffer q (with_part bytes offset part))

-- a buffer stays as it is except for the calls of its session, and for pokes found in its own regions, which change its
-- bytes alone
abbrev pub BuffersAreIndependent : Type 0
BuffersAreIndependent =
    (entry : Entry) (call : Call) (s : OwnState) (selector q : ℕ) (bytes : List ℕ) →
    get s.selectors selector ≡ Some (Buffer q bytes) → is_of q call ≡ false →
    let next = (own_step entry call s).next in
    (get next.selectors selector ≡ Some (Buffer q bytes)) ⊎ IsPoked call s next selector q bytes

-- a buffer that a call takes from its client's selectors leaves none of its regions
abbrev pub ClosedBuffersHaveNoRegions : Type 0
ClosedBuffersHaveNoRegions =
    (entry : Entry) (call : Call) (s : OwnState) (selector q : ℕ) (bytes : List ℕ) →
    get s.selectors selector ≡ Some (Buffer q bytes) → get (own_step entry call s).next.selectors selector ≡ None →
    (start : ℕ) (region : Region) → get (own_step entry call s).next.regions start ≡ Some region → region.of ≢ selector

-- the selector of a session's buffer after a request: the one that it had, or else the new one
abbrev pub lent_under : Option NamedBuffer → OwnState → ℕ
lent_under old s = unwrap_or (option_map (λ b. b.selector) old) (new_selector s.selectors)

-- a request of the session under a selector, which had this buffer or none, leaves it the session and the buffer that it made of
-- them; a buffer that is made is all zero, and the reply contains its selector
pub record IsServed (q : ℕ) (old : Option NamedBuffer) (o : Served) (s : OwnState) (after : Outcome) : Type 0 where
  pub session : get after.next.selectors q ≡ Some (OpenSession o.session)
  pub buffer :
      buffer_of q after.next.selectors ≡ option_map (λ bytes. record { selector = lent_under old s; bytes = bytes }) o.buffer
  pub made :
      (bytes : List ℕ) → old ≡ None → o.buffer ≡ Some bytes →
      (bytes ≡ zeros (length bytes)) × (after.reply ≡ Told (codes "OK cap " ++ decimal (new_selector s.selectors)))
  pub told : IsSome old ⊎ (o.buffer ≡ None) → after.reply ≡ Told o.reply

-- a request is served by the session that its selector names, and by the buffer of that
abbrev pub RequestsAreServed : Type 0
RequestsAreServed =
    (s : OwnState) (q : ℕ) (session : Session) (request : List ℕ) → AreLent s.selectors →
    get s.selectors q ≡ Some (OpenSession session) →
    let old = buffer_of q s.selectors in
    IsServed q old (served (bytes_of_buffer old) session request) s (script_step (CallSession q request) s)

-- all that selectors name but the session under one of them and its buffer stays, and all regions but those of the buffer
pub record LeavesOthers (q : ℕ) (s next : OwnState) : Type 0 where
  pub selectors :
      (k : ℕ) (object : Object) → k ≢ q → get s.selectors k ≡ Some object → is_buffer_of q (Some object) ≡ false →
      get next.selectors k ≡ Some object
  pub regions :
      (start : ℕ) (region : Region) → get s.regions start ≡ Some region →
      is_buffer_of q (get s.selectors region.of) ≡ false → get next.regions start ≡ Some region

-- so it is after a request of the session, and after a close
abbrev pub SessionCallsLeaveOthers : Type 0
SessionCallsLeaveOthers =
    (s : OwnState) (q : ℕ) (request : List ℕ) →
    LeavesOthers q s (script_step (CallSession q request) s).next × LeavesOthers q s (script_step (Close q) s).next
