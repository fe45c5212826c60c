-- A client of which one session has another donation.
use Rattle.std.specs.Prelude.{◌≡◌, ℕ, ◌+◌, ◌-◌, ◌<◌, ◌≤◌, ◌||◌, ◌==◌, ◌++◌, Bool, true, false, List, [], ◌∷◌, nat_lt, if◌then◌else◌, Option, Some, None, is_none}
use Rattle.std.specs.FinMap.{get, insert}
use Rattle.std.specs.List.{AllByRecursion}
use Rattle.own_model.specs.Account.{Account, shortage}
use Rattle.own_model.specs.Amounts.{Amounts, no_amounts}
use Rattle.own_model.specs.Call.{Call}
use Rattle.own_model.specs.Call.Call.{CallSession, Upgrade, Close, Exit}
use Rattle.own_model.specs.NatMap.{NatMap}
use Rattle.own_model.specs.OwnState.{OwnState, Object, session_named, buffer_of, bytes_of_buffer, new_selector}
use Rattle.own_model.specs.OwnState.Object.{OpenSession}
use Rattle.own_model.specs.OwnStep.{session_opened, own_step, own_run, turned_away}
use Rattle.own_model.specs.Reply.{Reply}
use Rattle.own_model.specs.Reply.Reply.{Told}
use Rattle.own_model.specs.Session.{Session, Wish, new_session}
use Rattle.own_model.specs.SessionArgs.{Arguments, arguments_of}
use Rattle.own_model.specs.StartList.{Entry}
use Rattle.budget_theorems.specs.Need.{HasRam, IsBelow, IsIn, limited, greatest_choice}
use Rattle.budget_theorems.specs.Request.{donating}
use Rattle.budget_theorems.specs.RequestTheorems.{Reaches, AreTold, session_needs, session_cell, session_is_short}
use Rattle.budget_theorems.specs.RequestTheorems.Reaches.{Asked, Raised}
use Rattle.budget_theorems.specs.Test.{Test, tests}
use Rattle.budget_theorems.specs.Shortfall.{but_limits}

-- a client that has a session under a selector, with a donation: that is what the session's account's limits are, and
-- what is left of the client's own are its account's
abbrev pub donated_to : ℕ → Session → Amounts → Amounts → OwnState → OwnState
donated_to q session own donation s = record s {
  account = limited own s.account;
  selectors = insert s.selectors q (OpenSession (donating donation session));
}

-- the state without the limits of the client's account and of the session under a selector, if there is one
abbrev pub selectors_but : ℕ → Option Session → NatMap Object → NatMap Object
selectors_but q None selectors = selectors
selectors_but q (Some session) selectors = insert selectors q (OpenSession (donating no_amounts session))

abbrev pub but_limits_of : ℕ → OwnState → OwnState
but_limits_of q s = record s {
  account = limited no_amounts s.account;
  selectors = selectors_but q (session_named (get s.selectors q)) s.selectors;
}

-- ---- what reaches a session

-- a call ends the session under a selector
abbrev pub ends : ℕ → Call → Bool
ends q (Close k) = k == q
ends q Exit = true
ends q call = false

-- more that is donated, where the client covers it
abbrev pub raised_by : Option Arguments → Account → List Reaches
raised_by None account = []
raised_by (Some more) account =
    if is_none (shortage account more.ram more.caps) then Raised (record { ram = more.ram; caps = more.caps }) ∷ [] else []

-- what a call brings to the session
abbrev pub brought : ℕ → Call → OwnState → List Reaches
brought q (CallSession k request) s = if k == q then Asked (bytes_of_buffer (buffer_of q s.selectors)) request ∷ [] else []
brought q (Upgrade k text) s = if k == q then raised_by (arguments_of text) s.account else []
brought q call s = []

-- and calls, until one ends it
abbrev pub reaching : Entry → ℕ → List Call → OwnState → List Reaches
reaching entry q [] s = []
reaching entry q (call ∷ calls) s = if ends q call then [] else brought q call s ++ reaching entry q calls (own_step entry call s).next

-- ---- a client that is ample

-- an account covers a test, also with the limits that are left of it where another donation went to the session
pub record CoversBoth (one other : Amounts) (a : Account) (test : Test) : Type 0 where
  pub ram : a.ram_used + test.ram ≤ a.ram_limit
  pub caps : a.caps_used + test.caps ≤ a.caps_limit
  pub other_ram : a.ram_used + test.ram + other.ram ≤ a.ram_limit + one.ram
  pub other_caps : a.caps_used + test.caps + other.caps ≤ a.caps_limit + one.caps

abbrev pub UnlessEnded : Bool → Type 0 → Type 0
UnlessEnded true P = Unit {0}
UnlessEnded false P = P

-- so along calls, until one ends the session: the client's own account suffices
abbrev pub IsAmple : Entry → ℕ → Amounts → Amounts → List Call → OwnState → Type 0
IsAmple entry q one other [] s = Unit {0}
IsAmple entry q one other (call ∷ calls) s =
    UnlessEnded (ends q call) (AllByRecursion (CoversBoth one other s.account) (tests entry call s) × IsAmple entry q one other calls (own_step entry call s).next)

-- ---- what is printed

-- two replies are the same except the limits that quota or STAT prints
pub data ReplyAlike : Reply → Reply → Type 0 where
  ButLimits : (one other : Reply) → but_limits other ≡ but_limits one → ReplyAlike one other
  Texts : (one other : List ℕ) → AreTold one other → ReplyAlike (Told one) (Told other)

-- and so all along calls, with the same finished lines
abbrev pub AllReplyAlike : Entry → List Call → OwnState → OwnState → Type 0
AllReplyAlike entry [] s t = Unit {0}
AllReplyAlike entry (call ∷ calls) s t =
    ReplyAlike (own_step entry call s).reply (own_step entry call t).reply
    × ((own_step entry call t).lines ≡ (own_step entry call s).lines)
    × AllReplyAlike entry calls (own_step entry call s).next (own_step entry call t).next

-- ---- theorems

-- a script that has not exited had as much before one donation as before another
pub record HadAsMuch (entry : Entry) (one own_one other own_other : Amounts) (s : OwnState) : Type 0 where
  pub here : turned_away entry.kind s ≡ None
  pub ram : own_one.ram + one.ram ≡ own_other.ram + other.ram
  pub caps : own_one.caps + one.caps ≡ own_other.caps + other.caps

-- an opening that is accepted leaves such a client
abbrev pub OpeningsDonate : Type 0
OpeningsDonate =
    (wish : Wish) (s : OwnState) →
    (session_opened wish s).next
    ≡ donated_to (new_selector s.selectors) (new_session wish)
    (record { ram = s.account.ram_limit - wish.ram; caps = s.account.caps_limit - wish.caps }) (record { ram = wish.ram; caps = wish.caps }) s

-- where the client is ample, two donations in the cell of what reaches the session give its client the same answers but
-- for limits, bring the same to the session, and leave the same own state except limits
abbrev pub SameAnswersOfClient : Type 0
SameAnswersOfClient =
    (entry : Entry) (q : ℕ) (session : Session) (calls : List Call) (s : OwnState) (one own_one other own_other : Amounts) →
    HadAsMuch entry one own_one other own_other s → IsAmple entry q one other calls (donated_to q session own_one one s) →
    IsIn (session_cell (reaching entry q calls (donated_to q session own_one one s)) one session) other →
    AllReplyAlike entry calls (donated_to q session own_one one s) (donated_to q session own_other other s)
    × (reaching entry q calls (donated_to q session own_other other s) ≡ reaching entry q calls (donated_to q session own_one one s))
    × (but_limits_of q (own_run entry calls (donated_to q session own_other other s))
    ≡ but_limits_of q (own_run entry calls (donated_to q session own_one one s)))

-- and a session, with a donation whose capabilities are below all that the run was refused, is in want by all that its
-- own run brings to it: within the RAM of the cell where the one run is, and where its capabilities are fewer than were
-- ever needed
abbrev pub ClientShortfallInACell : Type 0
ClientShortfallInACell =
    (entry : Entry) (q : ℕ) (session : Session) (calls : List Call) (s : OwnState) (one own_one other own_other : Amounts) →
    HadAsMuch entry one own_one other own_other s → IsAmple entry q one other calls (donated_to q session own_one one s) →
    IsBelow other.caps (session_cell (reaching entry q calls (donated_to q session own_one one s)) one session).caps_below →
    HasRam (session_cell (reaching entry q calls (donated_to q session own_one one s)) one session) other.ram →
    session_is_short (reaching entry q calls (donated_to q session own_other other s)) (donating other session)
    ≡ (session_is_short (reaching entry q calls (donated_to q session own_one one s)) (donating one session)
    || nat_lt other.caps (session_cell (reaching entry q calls (donated_to q session own_one one s)) one session).caps_from)

-- and short of quota below it, from the maximum need of a choice on that passed
abbrev pub ClientShortfallBelowACell : Type 0
ClientShortfallBelowACell =
    (entry : Entry) (q : ℕ) (session : Session) (calls : List Call) (s : OwnState) (one own_one other own_other : Amounts) →
    HadAsMuch entry one own_one other own_other s → IsAmple entry q one other calls (donated_to q session own_one one s) →
    IsBelow other.caps (session_cell (reaching entry q calls (donated_to q session own_one one s)) one session).caps_below →
    other.ram < (session_cell (reaching entry q calls (donated_to q session own_one one s)) one session).ram_from →
    greatest_choice one (session_needs one (reaching entry q calls (donated_to q session own_one one s)) (donating one session)) ≤ other.ram →
    session_is_short (reaching entry q calls (donated_to q session own_other other s)) (donating other session) ≡ true
