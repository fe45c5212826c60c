-- Theorems on a session's requests by its donation, as statements.
use Rattle.std.specs.Prelude.{◌≡◌, ℕ, ◌||◌, Bool, true, false, List, [], ◌∷◌, ◌++◌, map, Option, nat_lt, ◌<◌, ◌≤◌}
use Rattle.own_model.specs.Account.{Account}
use Rattle.own_model.specs.Amounts.{Amounts, no_amounts}
use Rattle.own_model.specs.FileText.{file_reply}
use Rattle.own_model.specs.FileText.FileReply.{Quotas}
use Rattle.own_model.specs.Session.{Session, Served, served, upgraded}
use Rattle.budget_theorems.specs.Need.{Need, Cell, HasRam, IsBelow, IsIn, limited, need_of, cell_by, greatest_choice}
use Rattle.budget_theorems.specs.Request.{request_tests, donating, shows_session_short}

-- what reaches a session: a request, by the bytes of the session's buffer then, if it has one, or more of a donation
pub data Reaches : Type 0 where
  Asked : Option (List ℕ) → List ℕ → Reaches
  Raised : Amounts → Reaches

-- the session after it
abbrev pub session_after : Reaches → Session → Session
session_after (Asked buffer request) session = (served buffer session request).session
session_after (Raised more) session = upgraded session more.ram more.caps

-- the needs of the tests that it makes, of a session that began with a donation
abbrev pub needs_of_one : Amounts → Reaches → Session → List Need
needs_of_one donation (Asked buffer request) session = map (need_of donation session.account) (request_tests buffer session request)
needs_of_one donation (Raised more) session = []

-- and of all that reaches it
abbrev pub session_needs : Amounts → List Reaches → Session → List Need
session_needs donation [] session = []
session_needs donation (reaches ∷ rest) session =
    needs_of_one donation reaches session ++ session_needs donation rest (session_after reaches session)

-- the cell of a donation
abbrev pub session_cell : List Reaches → Amounts → Session → Cell
session_cell all donation session = cell_by donation (session_needs donation all (donating donation session))

abbrev pub session_run : List Reaches → Session → Session
session_run [] session = session
session_run (reaches ∷ rest) session = session_run rest (session_after reaches session)

-- two replies are the same, or tell the same use and, it may be, other limits
pub data AreTold : List ℕ → List ℕ → Type 0 where
  Same : (reply : List ℕ) → AreTold reply reply
  Limits : (one other : Account) → limited no_amounts one ≡ limited no_amounts other → AreTold (file_reply (Quotas one)) (file_reply (Quotas other))

-- what a request is answered in two sessions: alike, with the same finished lines and the same buffer
pub record AnswersAlike (one other : Served) : Type 0 where
  pub reply : AreTold one.reply other.reply
  pub lines : other.lines ≡ one.lines
  pub buffer : other.buffer ≡ one.buffer

abbrev pub OneAlike : Reaches → Session → Session → Type 0
OneAlike (Asked buffer request) one other = AnswersAlike (served buffer one request) (served buffer other request)
OneAlike (Raised more) one other = Unit {0}

-- and so all requests
abbrev pub AllAlike : List Reaches → Session → Session → Type 0
AllAlike [] one other = Unit {0}
AllAlike (reaches ∷ rest) one other = OneAlike reaches one other × AllAlike rest (session_after reaches one) (session_after reaches other)

-- a request is short of quota
abbrev pub one_is_short : Reaches → Session → Bool
one_is_short (Asked buffer request) session = shows_session_short (served buffer session request).reply
one_is_short (Raised more) session = false

-- some request is
abbrev pub session_is_short : List Reaches → Session → Bool
session_is_short [] session = false
session_is_short (reaches ∷ rest) session = one_is_short reaches session || session_is_short rest (session_after reaches session)

-- two donations in a cell give the same answers, except the limits that STAT prints, and the same session, except the limits
abbrev pub SameAnswersOfSession : Type 0
SameAnswersOfSession =
    (all : List Reaches) (session : Session) (one other : Amounts) → IsIn (session_cell all one session) other →
    AllAlike all (donating one session) (donating other session)
    × (donating no_amounts (session_run all (donating other session)) ≡ donating no_amounts (session_run all (donating one session)))

-- a donation with RAM of a run's cell, and with capabilities below all that the run was refused, is in want where the run is, and
-- where its capabilities are fewer than were ever needed, and nowhere else
abbrev pub SessionShortfallInACell : Type 0
SessionShortfallInACell =
    (all : List Reaches) (session : Session) (one other : Amounts) → IsBelow other.caps (session_cell all one session).caps_below →
    HasRam (session_cell all one session) other.ram →
    session_is_short all (donating other session)
    ≡ (session_is_short all (donating one session) || nat_lt other.caps (session_cell all one session).caps_from)

-- and each such donation below the run's cell, from the maximum need of a choice on that passed in it, is short of quota
abbrev pub SessionShortfallBelowACell : Type 0
SessionShortfallBelowACell =
    (all : List Reaches) (session : Session) (one other : Amounts) → IsBelow other.caps (session_cell all one session).caps_below →
    other.ram < (session_cell all one session).ram_from →
    greatest_choice one (session_needs one all (donating one session)) ≤ other.ram →
    session_is_short all (donating other session) ≡ true
