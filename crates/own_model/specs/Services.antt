-- The properties of each service, and of what its server stores for a session: all that the model says of one service and not of
-- another.
use Rattle.std.specs.Prelude.{◌≡◌, ◌⊎◌, ℕ, List, [], Option}
use Rattle.std.proofs.Common.{refl, inl, inr}
use Rattle.std.specs.Coded.{Coded, code_by, coded×, coded⊎, coded_ℕ, coded_list}
use Rattle.own_model.specs.Account.{Account}
use Rattle.own_model.specs.BufferService.{BufferServed, text_served}
use Rattle.own_model.specs.CodedFiles.{coded_files}
use Rattle.own_model.specs.CodedObjects.{coded_objects}
use Rattle.own_model.specs.FileService.{Files, AreFiles, files_caps, files_ram, no_files}
use Rattle.own_model.specs.LogService.{LogServed, IsPartial, labelled, log_served}
use Rattle.own_model.specs.ObjectKinds.{ObjectKind}
use Rattle.own_model.specs.ObjectService.{Objects, AreObjects, no_objects, objects_caps, objects_ram}
use Rattle.own_model.specs.ObjectSession.{HoldingServed, holding_served}
use Rattle.own_model.specs.Offer.{Offer, coded_kind}
use Rattle.own_model.specs.Offer.Offer.{OffersLog, OffersFiles, OffersObjects}
use Rattle.own_model.specs.Reply.{LogLine}

-- what a server keeps for a session: the log server the line that isn't finished yet, the file server the files, and a declared
-- server the objects, of the kinds that it offers
pub data ServiceState : Type 0 where
  Logging : List ℕ → ServiceState
  Filing : Files → ServiceState
  Holding : List ObjectKind → Objects → ServiceState

-- a session: its label, its account, of which all is what its client donated, what its server keeps for it, and the place of
-- that server among the entries
pub record Session : Type 0 where
  pub label : List ℕ
  pub account : Account
  pub state : ServiceState
  pub server : ℕ

-- what is true of it: a line that isn't finished yet is shorter than the longest, and has no newline; files are as files
-- are, and objects as objects of these kinds are
abbrev pub IsKept : ServiceState → Type 0
IsKept (Logging partial) = IsPartial partial
IsKept (Filing files) = AreFiles files
IsKept (Holding kinds objects) = AreObjects kinds objects

-- what the server offers that keeps this
abbrev pub offer_of : ServiceState → Offer
offer_of (Logging partial) = OffersLog
offer_of (Filing files) = OffersFiles
offer_of (Holding kinds objects) = OffersObjects kinds

-- what a server keeps at first
abbrev pub state_at_first : Offer → ServiceState
state_at_first OffersLog = Logging []
state_at_first OffersFiles = Filing no_files
state_at_first (OffersObjects kinds) = Holding kinds no_objects

-- ---- charges

-- what a server charges to a session for what it keeps: for files and objects, and for no line
abbrev pub state_ram : ServiceState → ℕ
state_ram (Logging partial) = 0
state_ram (Filing files) = files_ram files
state_ram (Holding kinds objects) = objects_ram objects

abbrev pub state_caps : ServiceState → ℕ
state_caps (Logging partial) = 0
state_caps (Filing files) = files_caps files
state_caps (Holding kinds objects) = objects_caps objects

-- ---- requests

-- what a request is answered, the lines that it finished, and after it the session, and its buffer's bytes, if it has one then
pub record Served : Type 0 where
  pub reply : List ℕ
  pub lines : List LogLine
  pub session : Session
  pub buffer : Option (List ℕ)

-- a request of a log leaves the account, and a buffer, which no log has
abbrev pub logged_by : Option (List ℕ) → Session → LogServed → Served
logged_by buffer session o = record {
  reply = o.reply;
  lines = labelled session.label o.lines;
  session = record session { state = Logging o.partial };
  buffer = buffer;
}

-- a request of files or of the buffer changes the session's account, and finishes no lines
abbrev pub filed_by : Session → BufferServed → Served
filed_by session o = record {
  reply = o.reply;
  lines = [];
  session = record session { account = o.account; state = Filing o.files };
  buffer = o.buffer;
}

-- so does one of objects or of the buffer; the kinds stay
abbrev pub held_by : List ObjectKind → Session → HoldingServed → Served
held_by kinds session o = record {
  reply = o.reply;
  lines = [];
  session = record session { account = o.account; state = Holding kinds o.objects };
  buffer = o.buffer;
}

abbrev pub served_by : ServiceState → Option (List ℕ) → Session → List ℕ → Served
served_by (Logging partial) buffer session request = logged_by buffer session (log_served partial request)
served_by (Filing files) buffer session request = filed_by session (text_served buffer files session.account request)
served_by (Holding kinds objects) buffer session request =
    held_by kinds session (holding_served kinds buffer objects session.account request)

-- ---- as parts of a model's value

-- what a server keeps is stored as the line that isn't finished yet, as the files, or as the objects with their kinds
abbrev pub state_parts : ServiceState → List ℕ ⊎ (Files ⊎ (List ObjectKind × Objects))
state_parts (Logging partial) = inl partial
state_parts (Filing files) = inr (inl files)
state_parts (Holding kinds objects) = inr (inr (kinds, objects))

abbrev pub state_from : List ℕ ⊎ (Files ⊎ (List ObjectKind × Objects)) → ServiceState
state_from (inl partial) = Logging partial
state_from (inr (inl files)) = Filing files
state_from (inr (inr held)) = Holding held.0 held.1

abbrev pub state_back : (s : ServiceState) → state_from (state_parts s) ≡ s
state_back (Logging partial) = refl
state_back (Filing files) = refl
state_back (Holding kinds objects) = refl

abbrev pub coded_state : Coded ServiceState
coded_state =
    code_by
    (List ℕ ⊎ (Files ⊎ (List ObjectKind × Objects)))
    (coded⊎ (coded_list coded_ℕ) (coded⊎ coded_files (coded× (coded_list coded_kind) coded_objects)))
    state_parts
    state_from
    state_back
