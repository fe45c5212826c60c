-- What requests of a session of a declared server keep: of its objects, and of its buffer.
use Rattle.std.proofs.Common.{◌≡◌, ℕ, ◌+◌, List, Some, codes, length, refl, ap, arith}
use Rattle.std.proofs.lemmas.Option.{none-some}
use Rattle.std.specs.Prelude.{Option, None}
use Rattle.own_model.proofs.BufferKeptLemmas.{all_keep_charges, all_keep_limits, all_keep_within, all_fit, same_fits}
use Rattle.own_model.proofs.BufferMadeLemmas.{request_new}
use Rattle.own_model.proofs.ObjectChargeLemmas.{charges_kept, limits_kept, within_kept, SameLimits}
use Rattle.own_model.proofs.ObjectRequestLemmas.{request_kept}
use Rattle.own_model.proofs.ObjectServiceLemmas.{AreKept, objects_kept}
use Rattle.own_model.specs.Account.{Account, WithinLimits}
use Rattle.own_model.specs.BufferService.{BufferRequest, make_refusal, unless_refused, made, given_back, buffer_ram, buffer_caps, buffer_served}
use Rattle.own_model.specs.BufferService.BufferRequest.{Make, GiveBack, Put, Get}
use Rattle.own_model.specs.BufferService.SessionRequest.{OfBuffer as OfFilesBuffer}
use Rattle.own_model.specs.FileService.{IsCharged, no_files, files_ram, files_caps}
use Rattle.own_model.specs.FileText.{FileError}
use Rattle.own_model.specs.ObjectKinds.{ObjectKind}
use Rattle.own_model.specs.ObjectService.{Objects, AreCharged, objects_ram, objects_caps}
use Rattle.own_model.specs.ObjectSession.{HoldingRequest, holding_request_served}
use Rattle.own_model.specs.ObjectSession.HoldingRequest.{OfObjects, OfBuffer}
use Rattle.own_model.specs.OwnState.{zeros}
use Rattle.own_model.specs.ObjectTheorems.{AllKeepObjects, AllKeepObjectCharges, AllKeepObjectLimits, AllKeepObjectsWithinLimits, AllFitObjectBuffers}

pub all_keep_objects : AllKeepObjects
all_keep_objects kinds None buffer objects account h = h
all_keep_objects kinds (Some (OfObjects request)) buffer objects account h = request_kept kinds (AreKept kinds) objects account h (objects_kept kinds objects account h) (Some request)
all_keep_objects kinds (Some (OfBuffer request)) buffer objects account h = h

-- ---- charges

-- a session without files has none after a request of its buffer
unless_no_files : (why : Option FileError) (n : ℕ) (buffer : Option (List ℕ)) (account : Account) → (unless_refused why buffer no_files account (made n no_files account)).files ≡ no_files
unless_no_files (Some e) n buffer account = refl
unless_no_files None n buffer account = refl

given_no_files : (buffer : Option (List ℕ)) (account : Account) → (given_back buffer no_files account).files ≡ no_files
given_no_files None account = refl
given_no_files (Some bytes) account = refl

no_files_stay : (request : BufferRequest) (buffer : Option (List ℕ)) (account : Account) → (buffer_served request buffer no_files account).files ≡ no_files
no_files_stay (Make n) buffer account = unless_no_files (make_refusal n buffer account) n buffer account
no_files_stay GiveBack buffer account = given_no_files buffer account
no_files_stay (Put file offset place count) buffer account = refl
no_files_stay (Get file offset place count) buffer account = refl

-- a buffer is charged in addition to objects as it is in a session without files
buffer_charges : (ram caps : ℕ) (request : BufferRequest) (buffer : Option (List ℕ)) (objects : Objects) (account : Account) → AreCharged (ram + buffer_ram buffer) (caps + buffer_caps buffer) objects account →
    let o = buffer_served request buffer no_files account in
    AreCharged (ram + buffer_ram o.buffer) (caps + buffer_caps o.buffer) objects o.account
buffer_charges ram caps request buffer objects account h =
    let before : IsCharged (ram + objects_ram objects + buffer_ram buffer) (caps + objects_caps objects + buffer_caps buffer) no_files account = record { ram = omega (arith, h.ram); caps = omega (arith, h.caps) } in
    let after = all_keep_charges (ram + objects_ram objects) (caps + objects_caps objects) (Some (OfFilesBuffer request)) buffer no_files account before in
    let none = no_files_stay request buffer account in
    record { ram = omega (arith, after.ram, ap files_ram none); caps = omega (arith, after.caps, ap files_caps none) }

pub all_keep_object_charges : AllKeepObjectCharges
all_keep_object_charges ram caps kinds None buffer objects account h = h
all_keep_object_charges ram caps kinds (Some (OfObjects request)) buffer objects account h =
    request_kept kinds (AreCharged (ram + buffer_ram buffer) (caps + buffer_caps buffer)) objects account h (charges_kept (ram + buffer_ram buffer) (caps + buffer_caps buffer) kinds objects account h) (Some request)
all_keep_object_charges ram caps kinds (Some (OfBuffer request)) buffer objects account h = buffer_charges ram caps request buffer objects account h

-- ---- limits

pub all_keep_object_limits : AllKeepObjectLimits
all_keep_object_limits kinds None buffer objects account = (refl, refl)
all_keep_object_limits kinds (Some (OfObjects request)) buffer objects account = request_kept kinds (SameLimits kinds account) objects account (refl, refl) (limits_kept kinds account objects) (Some request)
all_keep_object_limits kinds (Some (OfBuffer request)) buffer objects account = all_keep_limits (Some (OfFilesBuffer request)) buffer no_files account

abbrev Within : Objects → Account → Type 0
Within objects account = WithinLimits account

pub all_keep_objects_within : AllKeepObjectsWithinLimits
all_keep_objects_within kinds None buffer objects account h = h
all_keep_objects_within kinds (Some (OfObjects request)) buffer objects account h = request_kept kinds Within objects account h (within_kept kinds objects account h) (Some request)
all_keep_objects_within kinds (Some (OfBuffer request)) buffer objects account h = all_keep_within (Some (OfFilesBuffer request)) buffer no_files account h

-- ---- its buffer

pub all_fit_objects : AllFitObjectBuffers
all_fit_objects kinds None buffer objects account = same_fits buffer
all_fit_objects kinds (Some (OfObjects request)) buffer objects account = same_fits buffer
all_fit_objects kinds (Some (OfBuffer request)) buffer objects account = all_fit (Some (OfFilesBuffer request)) buffer no_files account

-- where a session had no buffer and has one, that is zero, and the reply waits for its selector
pub object_request_new : (kinds : List ObjectKind) (objects : Objects) (account : Account) (request : Option HoldingRequest) (bytes : List ℕ) → (holding_request_served kinds request None objects account).buffer ≡ Some bytes →
    (bytes ≡ zeros (length bytes)) × ((holding_request_served kinds request None objects account).reply ≡ codes "OK cap ")
object_request_new kinds objects account None bytes is = absurd (none-some bytes is)
object_request_new kinds objects account (Some (OfObjects request)) bytes is = absurd (none-some bytes is)
object_request_new kinds objects account (Some (OfBuffer request)) bytes is = request_new no_files account (Some (OfFilesBuffer request)) bytes is
