-- What is so of each service: all that lemmas say of one service and not of another.
use Rattle.std.proofs.Common.{◌≡◌, ℕ, ◌+◌, true, false, List, length, codes, refl, ap, arith, Some}
use Rattle.std.proofs.lemmas.List.Elements.{All-nil}
use Rattle.std.proofs.lemmas.Option.{none-some}
use Rattle.std.specs.Prelude.{Option, None}
use Rattle.std.specs.Str.{bytes_eq}
use Rattle.trade_base.specs.Service.{binary_name, served_by_binary, service_name}
use Rattle.trade_base.specs.declared.service.BuiltInService.{BuiltInService}
use Rattle.trade_base.specs.declared.service.BuiltInService.TheVariants as service
use Rattle.own_model.proofs.BufferKeptLemmas.{all_fit, all_keep_charges, all_keep_files, all_keep_limits, all_keep_within, same_fits}
use Rattle.own_model.proofs.BufferMadeLemmas.{request_new}
use Rattle.own_model.proofs.FileServiceLemmas.{no_files_are}
use Rattle.own_model.proofs.LogLemmas.{writes_lines}
use Rattle.own_model.proofs.ObjectKeptLemmas.{all_fit_objects, all_keep_object_charges, all_keep_object_limits, all_keep_objects, all_keep_objects_within, object_request_new}
use Rattle.own_model.proofs.ObjectServiceLemmas.{no_objects_are}
use Rattle.own_model.specs.Account.{WithinLimits}
use Rattle.own_model.specs.BufferTheorems.{FitsBuffer}
use Rattle.own_model.specs.BufferService.{buffer_caps, buffer_ram, session_request}
use Rattle.own_model.specs.FileService.{IsCharged}
use Rattle.own_model.specs.LogService.{IsUnbroken, IsPartial, log_served_bytes}
use Rattle.own_model.specs.LogText.{log_request}
use Rattle.own_model.specs.ObjectService.{AreCharged}
use Rattle.own_model.specs.ObjectSession.{holding_request}
use Rattle.own_model.specs.Offer.{Offer}
use Rattle.own_model.specs.Offer.Offer.{OffersLog, OffersFiles, OffersObjects}
use Rattle.own_model.specs.OwnState.{zeros}
use Rattle.own_model.specs.Services.{IsKept, Served, ServiceState, Session, served_by, state_at_first, state_caps, state_ram}
use Rattle.own_model.specs.Services.ServiceState.{Logging, Filing, Holding}
use Rattle.own_model.specs.Session.{session_caps, session_ram}
use Rattle.own_model.specs.Text.{is_name}
use Rattle.own_model.specs.Use.{UsesItsCharge}

-- ---- names

-- it is found again by its binary's name
pub found_again : (of : BuiltInService) → served_by_binary (binary_name of) ≡ Some of
found_again service.Log = refl
found_again service.Files = refl

-- which is no script's and no init's
pub is_no_script : (of : BuiltInService) → bytes_eq (binary_name of) (codes "script") ≡ false
is_no_script service.Log = refl
is_no_script service.Files = refl

pub is_no_init : (of : BuiltInService) → bytes_eq (binary_name of) (codes "init") ≡ false
is_no_init service.Log = refl
is_no_init service.Files = refl

-- each service's name is one that an entry could have
pub is_named : (of : BuiltInService) → is_name (service_name of) ≡ true
is_named service.Log = refl
is_named service.Files = refl

-- ---- its server

-- what a request is answered, of the server at a place
abbrev pub served_there : ℕ → Served → Served
served_there server o = record o { session = record o.session { server = server } }

-- a request is answered alike wherever the server stands
pub there_by : (server : ℕ) (state : ServiceState) (buffer : Option (List ℕ)) (x : Session) (request : List ℕ) →
    served_by state buffer (record x { server = server }) request ≡ served_there server (served_by state buffer x request)
there_by server (Logging partial) buffer x request = refl
there_by server (Filing files) buffer x request = refl
there_by server (Holding kinds objects) buffer x request = refl

-- a request leaves the session with its server
pub server_stays : (state : ServiceState) (buffer : Option (List ℕ)) (x : Session) (request : List ℕ) → (served_by state buffer x request).session.server ≡ x.server
server_stays (Logging partial) buffer x request = refl
server_stays (Filing files) buffer x request = refl
server_stays (Holding kinds objects) buffer x request = refl

-- ---- charges

-- nothing is charged for what a server keeps at first
pub nothing_at_first : (offer : Offer) → (state_ram (state_at_first offer) ≡ 0) × (state_caps (state_at_first offer) ≡ 0)
nothing_at_first OffersLog = (refl, refl)
nothing_at_first OffersFiles = (refl, refl)
nothing_at_first (OffersObjects kinds) = (refl, refl)

-- a session that has served uses what it is charged for
pub serve_charges : (state : ServiceState) (buffer : Option (List ℕ)) (x : Session) (request : List ℕ) → x.state ≡ state → UsesItsCharge x buffer →
    UsesItsCharge (served_by state buffer x request).session (served_by state buffer x request).buffer
serve_charges (Logging partial) buffer x request is h = record { ram = omega (arith, h.ram, ap state_ram is); caps = omega (arith, h.caps, ap state_caps is) }
serve_charges (Filing files) buffer x request is h =
    let before : IsCharged (session_ram + buffer_ram buffer) (session_caps + buffer_caps buffer) files x.account = record { ram = omega (arith, h.ram, ap state_ram is); caps = omega (arith, h.caps, ap state_caps is) } in
    let after = all_keep_charges session_ram session_caps (session_request request) buffer files x.account before in
    record { ram = omega (arith, after.ram); caps = omega (arith, after.caps) }
serve_charges (Holding kinds objects) buffer x request is h =
    let before : AreCharged (session_ram + buffer_ram buffer) (session_caps + buffer_caps buffer) objects x.account = record { ram = omega (arith, h.ram, ap state_ram is); caps = omega (arith, h.caps, ap state_caps is) } in
    let after = all_keep_object_charges session_ram session_caps kinds (holding_request request) buffer objects x.account before in
    record { ram = omega (arith, after.ram); caps = omega (arith, after.caps) }

-- ---- limits

-- an account of a session is within its limits
abbrev pub IsWithin : Session → Type 0
IsWithin session = WithinLimits session.account

-- a session that serves stays within its limits
pub serve_within : (state : ServiceState) (buffer : Option (List ℕ)) (x : Session) (request : List ℕ) → IsWithin x → IsWithin (served_by state buffer x request).session
serve_within (Logging partial) buffer x request within = within
serve_within (Filing files) buffer x request within = all_keep_within (session_request request) buffer files x.account within
serve_within (Holding kinds objects) buffer x request within = all_keep_objects_within kinds (holding_request request) buffer objects x.account within

-- a session that serves keeps its limits
pub serve_keeps : (state : ServiceState) (buffer : Option (List ℕ)) (x : Session) (request : List ℕ) →
    ((served_by state buffer x request).session.account.ram_limit ≡ x.account.ram_limit) × ((served_by state buffer x request).session.account.caps_limit ≡ x.account.caps_limit)
serve_keeps (Logging partial) buffer x request = (refl, refl)
serve_keeps (Filing files) buffer x request = all_keep_limits (session_request request) buffer files x.account
serve_keeps (Holding kinds objects) buffer x request = all_keep_object_limits kinds (holding_request request) buffer objects x.account

-- ---- what is kept

-- what is kept for a session is as it should be
abbrev pub Keeps : Session → Type 0
Keeps x = IsKept x.state

-- at first
pub kept_at_first : (offer : Offer) → IsKept (state_at_first offer)
kept_at_first OffersLog = record { short = omega arith; whole = All-nil IsUnbroken }
kept_at_first OffersFiles = no_files_are
kept_at_first (OffersObjects kinds) = no_objects_are kinds

-- after a request that has bytes or none
partial_after : (partial : List ℕ) (bytes : Option (List ℕ)) → IsPartial partial → IsPartial (log_served_bytes partial bytes).partial
partial_after partial None h = h
partial_after partial (Some bytes) h = (writes_lines partial bytes h).1

pub kept_after : (state : ServiceState) (buffer : Option (List ℕ)) (x : Session) (request : List ℕ) → IsKept state → Keeps (served_by state buffer x request).session
kept_after (Logging partial) buffer x request h = partial_after partial (log_request request) h
kept_after (Filing files) buffer x request h = all_keep_files (session_request request) buffer files x.account h
kept_after (Holding kinds objects) buffer x request h = all_keep_objects kinds (holding_request request) buffer objects x.account h

-- ---- its buffer

-- what a request leaves of a buffer is as long as it was, or whole pages
pub serve_fits : (state : ServiceState) (buffer : Option (List ℕ)) (x : Session) (request : List ℕ) → FitsBuffer buffer (served_by state buffer x request).buffer
serve_fits (Logging partial) buffer x request = same_fits buffer
serve_fits (Filing files) buffer x request = all_fit (session_request request) buffer files x.account
serve_fits (Holding kinds objects) buffer x request = all_fit_objects kinds (holding_request request) buffer objects x.account

-- a session that had no buffer and has one has it all zero, and the reply waits for its selector
pub serve_new : (state : ServiceState) (x : Session) (request bytes : List ℕ) → (served_by state None x request).buffer ≡ Some bytes →
    (bytes ≡ zeros (length bytes)) × ((served_by state None x request).reply ≡ codes "OK cap ")
serve_new (Logging partial) x request bytes is = absurd (none-some bytes is)
serve_new (Filing files) x request bytes is = request_new files x.account (session_request request) bytes is
serve_new (Holding kinds objects) x request bytes is = object_request_new kinds objects x.account (holding_request request) bytes is
