-- Theorems on declared servers and the objects of their sessions, as statements.
use Rattle.std.specs.Prelude.{◌≡◌, ◌≢◌, ℕ, ◌+◌, ◌==◌, ◌&&◌, Bool, true, false, not, List, [], ◌∷◌, length, nat_le, Option, Some, None, is_none, is_some}
use Rattle.std.specs.Option.{option_map}
use Rattle.std.specs.Str.{bytes_eq}
use Rattle.trade_base.specs.Page.{page_of, is_valid_size}
use Rattle.own_model.specs.Account.{Account, WithinLimits}
use Rattle.own_model.specs.BestFit.{Spot, block_size}
use Rattle.own_model.specs.BufferService.{buffer_ram, buffer_caps}
use Rattle.own_model.specs.BufferTheorems.{FitsBuffer}
use Rattle.own_model.specs.ErrorTests.{Tested, when, first_of}
use Rattle.own_model.specs.FileText.FileError.{BadRequest, BadName, Exists, NotFound, End, TooManyChunks, OutOfRam, OutOfCaps, InvalidSize}
use Rattle.own_model.specs.Growth.{Shape, most_chunks, hole_for, small_refusal, heap_refusal}
use Rattle.own_model.specs.ObjectKinds.{ObjectKind, IsObjectKind, kind_named}
use Rattle.own_model.specs.ObjectService.{Objects, DeclaredObject, AreObjects, AreCharged, no_objects, object_named, contents, with_units, told, request_served, object_served}
use Rattle.own_model.specs.ObjectSession.{HoldingRequest, holding_request_served}
use Rattle.own_model.specs.ObjectText.{ObjectRequest, ObjectError, object_request, object_reply}
use Rattle.own_model.specs.ObjectText.ObjectRequest.{Make, Resize, Drop, Count, CountKind, Name, Stat}
use Rattle.own_model.specs.ObjectText.ObjectError.{BadKind, Shared}
use Rattle.own_model.specs.ObjectText.ObjectReply.{Done, Refused}
use Rattle.own_model.specs.Sliced.{sliced_header, sliced_size}
use Rattle.own_model.specs.Table.{lacks_ram, lacks_caps}
use Rattle.own_model.specs.Text.{is_name}

-- ---- the table of requests: what each is refused for, in order

-- for a new node, with the best hole for it, if there is one: if there is none, a chunk of the block's own pages decides
abbrev pub block_errors : ℕ → Option Spot → Shape → Account → List (Tested ObjectError)
block_errors n (Some hole) shape account = []
block_errors n None shape account =
    when (nat_le most_chunks (length shape.chunks)) (Shared TooManyChunks)
    ∷ when (lacks_ram account (page_of (block_size n))) (Shared OutOfRam) ∷ when (lacks_caps account 1) (Shared OutOfCaps) ∷ []

abbrev pub make_errors : Option ObjectKind → List ℕ → Objects → Account → List (Tested ObjectError)
make_errors None name objects account = when true BadKind ∷ []
make_errors (Some kind) name objects account =
    when (not (is_name name)) (Shared BadName) ∷ when (is_some (object_named name objects)) (Shared Exists)
    ∷ block_errors kind.block (hole_for kind.block objects.shape) objects.shape account

-- of contents of so many bytes, which are new if they are for other units: no bytes need nothing
abbrev pub contents_errors : Bool → ℕ → Account → List (Tested ObjectError)
contents_errors new size account =
    when (new && (not (size == 0) && not (is_valid_size (sliced_header + size)))) (Shared InvalidSize)
    ∷ when (new && (not (size == 0) && lacks_ram account (sliced_size size))) (Shared OutOfRam)
    ∷ when (new && (not (size == 0) && lacks_caps account 1)) (Shared OutOfCaps) ∷ []

abbrev pub resize_errors : ℕ → Option DeclaredObject → Account → List (Tested ObjectError)
resize_errors units None account = when true (Shared NotFound) ∷ []
resize_errors units (Some object) account = contents_errors (not (units == object.units)) (contents (with_units units object)) account

-- the line of each request
abbrev pub errors_of : List ObjectKind → Option ObjectRequest → Objects → Account → List (Tested ObjectError)
errors_of kinds None objects account = when true (Shared BadRequest) ∷ []
errors_of kinds (Some (Make kind name)) objects account = make_errors (kind_named kind kinds) name objects account
errors_of kinds (Some (Resize name units)) objects account = resize_errors units (object_named name objects) account
errors_of kinds (Some (Drop name)) objects account = when (is_none (object_named name objects)) (Shared NotFound) ∷ []
errors_of kinds (Some Count) objects account = []
errors_of kinds (Some (CountKind kind)) objects account = when (is_none (kind_named kind kinds)) BadKind ∷ []
errors_of kinds (Some (Name place)) objects account = when (nat_le (length objects.objects) place) (Shared End) ∷ []
errors_of kinds (Some Stat) objects account = []

-- a request is answered the first error of its line whose condition holds, and then leaves the objects and the account. So
-- memory and capabilities are needed only if the session's own account and its own heap of nodes lack them
abbrev pub ObjectErrorsComeInOrder : Type 0
ObjectErrorsComeInOrder =
    (kinds : List ObjectKind) (objects : Objects) (account : Account) (text : List ℕ) (e : ObjectError) →
    first_of (errors_of kinds (object_request text) objects account) ≡ Some e →
    object_served kinds objects account text ≡ told (Refused e) objects account

-- if no condition holds, it is answered none
abbrev pub OtherObjectRequestsAreServed : Type 0
OtherObjectRequestsAreServed =
    (kinds : List ObjectKind) (objects : Objects) (account : Account) (text : List ℕ) (e : ObjectError) →
    first_of (errors_of kinds (object_request text) objects account) ≡ None →
    (object_served kinds objects account text).reply ≢ object_reply (Refused e)

-- the block of a kind that a list can declare is one that a heap is asked for, and no large one
abbrev pub NodesAreHeapBlocks : Type 0
NodesAreHeapBlocks =
    (kind : ObjectKind) (shape : Shape) (account : Account) → IsObjectKind kind →
    heap_refusal kind.block shape account ≡ small_refusal kind.block (hole_for kind.block shape) shape account

-- ---- what requests keep

-- what a session has at first is as objects are, whatever the kinds
abbrev pub NoObjectsAreObjects : Type 0
NoObjectsAreObjects = (kinds : List ObjectKind) → AreObjects kinds no_objects

-- a request leaves objects as objects are
abbrev pub RequestsKeepObjects : Type 0
RequestsKeepObjects =
    (kinds : List ObjectKind) (objects : Objects) (account : Account) (text : List ℕ) → AreObjects kinds objects →
    AreObjects kinds (object_served kinds objects account text).objects

-- whatever an account uses besides, it uses what the objects are charged after a request as before it: so when a session ends,
-- all that was charged for its objects is what they are charged
abbrev pub RequestsKeepObjectCharges : Type 0
RequestsKeepObjectCharges =
    (more_ram more_caps : ℕ) (kinds : List ObjectKind) (objects : Objects) (account : Account) (text : List ℕ) →
    AreCharged more_ram more_caps objects account →
    AreCharged more_ram more_caps (object_served kinds objects account text).objects (object_served kinds objects account text).account

-- a request changes no limit
abbrev pub RequestsKeepObjectLimits : Type 0
RequestsKeepObjectLimits =
    (kinds : List ObjectKind) (objects : Objects) (account : Account) (text : List ℕ) →
    ((object_served kinds objects account text).account.ram_limit ≡ account.ram_limit)
    × ((object_served kinds objects account text).account.caps_limit ≡ account.caps_limit)

-- and overdraws no account
abbrev pub RequestsKeepObjectsWithinLimits : Type 0
RequestsKeepObjectsWithinLimits =
    (kinds : List ObjectKind) (objects : Objects) (account : Account) (text : List ℕ) → WithinLimits account →
    WithinLimits (object_served kinds objects account text).account

-- ---- what an object is after requests

-- an object that was made is there, of its kind and without units
abbrev pub MadeAreThere : Type 0
MadeAreThere =
    (kinds : List ObjectKind) (objects : Objects) (account : Account) (kind name : List ℕ) →
    let after = request_served kinds (Some (Make kind name)) objects account in
    after.reply ≡ object_reply Done →
    (object : DeclaredObject)
    × ((object_named name after.objects ≡ Some object) × ((kind_named kind kinds ≡ Some object.kind) × (object.units ≡ 0)))

-- one that was resized has these units, and else is as it was
abbrev pub ResizedHaveTheirUnits : Type 0
ResizedHaveTheirUnits =
    (kinds : List ObjectKind) (objects : Objects) (account : Account) (name : List ℕ) (units : ℕ) →
    let after = request_served kinds (Some (Resize name units)) objects account in
    after.reply ≡ object_reply Done → object_named name after.objects ≡ option_map (with_units units) (object_named name objects)

-- one that is resized to the units that it has leaves all as it is, whatever the account covers
abbrev pub SameUnitsAreKept : Type 0
SameUnitsAreKept =
    (kinds : List ObjectKind) (objects : Objects) (account : Account) (name : List ℕ) (object : DeclaredObject) →
    object_named name objects ≡ Some object →
    request_served kinds (Some (Resize name object.units)) objects account ≡ told Done objects account

-- a request changes the object of this name, if it changes one
abbrev pub changes : List ℕ → ObjectRequest → Bool
changes name (Make kind new) = bytes_eq new name
changes name (Resize of units) = bytes_eq of name
changes name (Drop of) = bytes_eq of name
changes name request = false

-- each other object stays as it is, and where its node is
abbrev pub OtherObjectsStay : Type 0
OtherObjectsStay =
    (kinds : List ObjectKind) (objects : Objects) (account : Account) (name : List ℕ) (request : ObjectRequest) →
    changes name request ≡ false →
    object_named name (request_served kinds (Some request) objects account).objects ≡ object_named name objects

-- ---- any request of a session: of its objects, or of its buffer

-- it leaves objects as objects are
abbrev pub AllKeepObjects : Type 0
AllKeepObjects =
    (kinds : List ObjectKind) (request : Option HoldingRequest) (buffer : Option (List ℕ)) (objects : Objects) (account : Account) →
    AreObjects kinds objects → AreObjects kinds (holding_request_served kinds request buffer objects account).objects

-- whatever an account uses besides, it uses what the objects and the buffer are charged after a request as before it
abbrev pub AllKeepObjectCharges : Type 0
AllKeepObjectCharges =
    (more_ram more_caps : ℕ) (kinds : List ObjectKind) (request : Option HoldingRequest) (buffer : Option (List ℕ))
    (objects : Objects) (account : Account) →
    AreCharged (more_ram + buffer_ram buffer) (more_caps + buffer_caps buffer) objects account →
    let o = holding_request_served kinds request buffer objects account in
    AreCharged (more_ram + buffer_ram o.buffer) (more_caps + buffer_caps o.buffer) o.objects o.account

-- a request changes no limit
abbrev pub AllKeepObjectLimits : Type 0
AllKeepObjectLimits =
    (kinds : List ObjectKind) (request : Option HoldingRequest) (buffer : Option (List ℕ)) (objects : Objects) (account : Account) →
    let o = holding_request_served kinds request buffer objects account in
    (o.account.ram_limit ≡ account.ram_limit) × (o.account.caps_limit ≡ account.caps_limit)

-- and overdraws no account
abbrev pub AllKeepObjectsWithinLimits : Type 0
AllKeepObjectsWithinLimits =
    (kinds : List ObjectKind) (request : Option HoldingRequest) (buffer : Option (List ℕ)) (objects : Objects) (account : Account) →
    WithinLimits account → WithinLimits (holding_request_served kinds request buffer objects account).account

-- a buffer that is made is whole pages, and one that stays stays as long
abbrev pub AllFitObjectBuffers : Type 0
AllFitObjectBuffers =
    (kinds : List ObjectKind) (request : Option HoldingRequest) (buffer : Option (List ℕ)) (objects : Objects) (account : Account) →
    FitsBuffer buffer (holding_request_served kinds request buffer objects account).buffer
