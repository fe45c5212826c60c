-- An attack on a file server, as a computed example.
use Rattle.std.specs.Prelude.{ℕ, false, List, [], ◌∷◌, codes}
use Rattle.std.specs.FinMap as map
use Rattle.own_model.specs.Account.{charged, opened}
use Rattle.own_model.specs.Offer.Offer.{OffersFiles}
use Rattle.own_model.specs.OwnState.{OwnState}
use Rattle.own_model.specs.OwnState.Object.{OpenSession}
use Rattle.own_model.specs.OwnStep.{exited_state, unrouted}
use Rattle.own_model.specs.Session.{Session, new_session}
use Rattle.own_model.specs.StartList.{Entry}
use Rattle.own_model.specs.Transcript.{nobody, nothing}
use Rattle.guard_theorems.specs.Guarded.{GuardedWorld}

-- a script of this name
abbrev pub script : List ℕ → Entry
script name = record unrouted { name = name; label = name }

-- its new session of the file server at place 0 with a donation, of which the session itself is charged 4K and 2 capabilities
abbrev pub file_session : List ℕ → ℕ → ℕ → Session
file_session name ram caps =
    new_session (record { server = record { kind = OffersFiles; place = 0 }; label = name; ram = ram; caps = caps })

-- the own state of a script that has a session and nothing else
abbrev pub has_only : Session → OwnState
has_only session = record exited_state { selectors = map.insert map.empty 1 (OpenSession session); gone = false }

-- a reader donated for a session and a file, and a crawler for a session alone
abbrev pub reader : Session
reader = file_session (codes "reader") 8192 3

abbrev pub crawler : Session
crawler = file_session (codes "crawler") 4096 2

-- their server has both donations and nothing else: 12K and 5 capabilities, of which 8K and 4 are used for the sessions
abbrev pub shared_store : GuardedWorld
shared_store = record {
  world = record {
    entries = nobody ∷ script (codes "reader") ∷ script (codes "crawler") ∷ [];
    inits = opened 0 0 ∷ [];
    states = nothing ∷ has_only reader ∷ has_only crawler ∷ [];
  };
  accounts = λ server. charged (opened 12288 5) 8192 4;
}

-- the crawler creates a file, and then the reader
abbrev pub attack : List ℕ
attack = codes "crawler call 1 CREATE a\nreader call 1 CREATE a\n"
