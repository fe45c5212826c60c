-- The requests and donations of a client to a session, from one donation or another.
use Rattle.std.specs.Prelude.{◌≡◌, ℕ, ◌≤◌, ◌||◌, Bool, not, List, [], ◌∷◌, suc, if◌then◌else◌, Option, None, is_some}
use Rattle.own_model.specs.Amounts.{Amounts}
use Rattle.own_model.specs.Account.{opened}
use Rattle.own_model.specs.Session.{Session, served, session_ram, session_caps, too_small}
use Rattle.budget_theorems.specs.Need.{Need, need_of}
use Rattle.budget_theorems.specs.Request.{donating}
use Rattle.budget_theorems.specs.RequestTheorems.{Reaches, session_after, session_needs, one_is_short, session_is_short}
use Rattle.budget_theorems.specs.RequestTheorems.Reaches.{Asked, Raised}
use Rattle.budget_theorems.specs.Intervals.{is_covered, stretches}
use Rattle.budget_theorems.specs.Test.{test_of}

-- a request, or more of a donation, which the client covers
pub data Sent : Type 0 where
  Asks : List ℕ → Sent
  Raises : Amounts → Sent

-- as it reaches the session, which has a buffer of these bytes or none
abbrev pub reaches : Option (List ℕ) → Sent → Reaches
reaches buffer (Asks request) = Asked buffer request
reaches buffer (Raises more) = Raised more

-- the buffer after it
abbrev pub buffer_after : Option (List ℕ) → Sent → Session → Option (List ℕ)
buffer_after buffer (Asks request) session = (served buffer session request).buffer
buffer_after buffer (Raises more) session = buffer

-- what reaches the session, up to the first shortfall
abbrev pub reaching_to_want : List Sent → Option (List ℕ) → Session → List Reaches
reaching_to_want [] buffer session = []
reaching_to_want (sent ∷ rest) buffer session =
    reaches buffer sent
    ∷ (if one_is_short (reaches buffer sent) session then []
    else reaching_to_want rest (buffer_after buffer sent session) (session_after (reaches buffer sent) session))

-- the run of the session from a donation: its needs, and whether it has a shortfall
abbrev pub run_needs : List Sent → Session → Amounts → List Need
run_needs sent session donation =
    session_needs donation (reaching_to_want sent None (donating donation session)) (donating donation session)

abbrev pub run_in_want : List Sent → Session → Amounts → Bool
run_in_want sent session donation =
    session_is_short (reaching_to_want sent None (donating donation session)) (donating donation session)

-- ---- with its opening

-- a donation that is too small opens none
abbrev pub opens_none : Amounts → Bool
opens_none donation = is_some (too_small donation.ram donation.caps)

-- what the opening tests of it
abbrev pub opening_need : Amounts → Need
opening_need donation = need_of donation (opened donation.ram donation.caps) (test_of session_ram session_caps)

-- the run of a session that is opened with a donation
abbrev pub opened_needs : List Sent → Session → Amounts → List Need
opened_needs sent session donation =
    opening_need donation ∷ (if opens_none donation then [] else run_needs sent session donation)

abbrev pub opened_in_want : List Sent → Session → Amounts → Bool
opened_in_want sent session donation = opens_none donation || run_in_want sent session donation

-- the intervals of a few of these runs cover exactly the donations that open the session and have no shortfall in their own
-- run. The donations are of at most these bytes and capabilities
abbrev pub SessionRunsAreExact : Type 0
SessionRunsAreExact =
    (sent : List Sent) (session : Session) (caps top : ℕ) (donation : Amounts) → donation.caps ≤ caps → donation.ram ≤ top →
    is_covered (stretches (opened_needs sent session) (opened_in_want sent session) caps (suc top) top) donation
    ≡ not (opened_in_want sent session donation)
