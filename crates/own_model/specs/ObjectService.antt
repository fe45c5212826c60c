-- The objects of one client of a declared server: what a session's requests make of them and of its account.
use Rattle.std.specs.Prelude.{◌≡◌, ℕ, ◌+◌, ◌*◌, ◌==◌, Bool, not, List, [], ◌∷◌, ◌++◌, length, map, find, count_by, slice_get, if◌then◌else◌, Option, Some, None, is_some}
use Rattle.std.specs.List.{AllByRecursion}
use Rattle.std.specs.Option.{option_map}
use Rattle.std.specs.Str.{bytes_eq}
use Rattle.trade_base.specs.Page.{is_valid_size}
use Rattle.own_model.specs.Account.{Account, shortage, charged, credited}
use Rattle.own_model.specs.FileService.{error_of}
use Rattle.own_model.specs.FileText.FileError.{BadRequest, BadName, Exists, NotFound, End, InvalidSize}
use Rattle.own_model.specs.Growth.{Shape, no_chunks, hole_for, small_refusal, shape_given}
use Rattle.own_model.specs.Nodes.{Node, BlockTaken, AreNodesOf, with_first, without_first, block_taken, content_ram, content_caps, kept_ram, kept_caps}
use Rattle.own_model.specs.ObjectKinds.{ObjectKind, kind_named}
use Rattle.own_model.specs.ObjectText.{ObjectRequest, ObjectError, ObjectReply, object_request, object_reply}
use Rattle.own_model.specs.ObjectText.ObjectRequest.{Make, Resize, Drop, Count, CountKind, Name, Stat}
use Rattle.own_model.specs.ObjectText.ObjectError.{BadKind, Shared}
use Rattle.own_model.specs.ObjectText.ObjectReply.{Done, Counted, Named, Quotas, Refused}
use Rattle.own_model.specs.Sliced.{sliced_header, sliced_size}
use Rattle.own_model.specs.Text.{is_name}

-- ---- objects

-- an object: its name, its kind, its units, and where the block of its node starts in the heap of nodes
pub record DeclaredObject : Type 0 where
  pub name : List ℕ
  pub kind : ObjectKind
  pub units : ℕ
  pub chunk : ℕ
  pub offset : ℕ

-- objects in the order of their creation, and the heap of their nodes
pub record Objects : Type 0 where
  pub objects : List DeclaredObject
  pub shape : Shape

-- what a session has at first
abbrev pub no_objects : Objects
no_objects = record { objects = []; shape = no_chunks }

abbrev pub is_named : List ℕ → DeclaredObject → Bool
is_named name object = bytes_eq object.name name

-- the object of a name, if there is one
abbrev pub object_named : List ℕ → Objects → Option DeclaredObject
object_named name objects = find (is_named name) objects.objects

abbrev pub is_of_kind : List ℕ → DeclaredObject → Bool
is_of_kind kind object = bytes_eq object.kind.name kind

-- the bytes of an object's contents
abbrev pub contents : DeclaredObject → ℕ
contents object = object.units * object.kind.bytes

-- the object with other units
abbrev pub with_units : ℕ → DeclaredObject → DeclaredObject
with_units units object = record object { units = units }

-- ---- why a request is refused

-- by the heap, or by the account
abbrev pub block_refusal : ObjectKind → Objects → Account → Option ObjectError
block_refusal kind objects account =
    option_map (λ refusal. Shared (error_of refusal))
    (small_refusal kind.block (hole_for kind.block objects.shape) objects.shape account)

abbrev pub make_refusal : ObjectKind → List ℕ → Objects → Account → Option ObjectError
make_refusal kind name objects account =
    if not (is_name name) then Some (Shared BadName)
    else (if is_some (object_named name objects) then Some (Shared Exists) else block_refusal kind objects account)

-- contents of so many bytes are one new block, and no block is taken for none
abbrev pub contents_refusal : ℕ → Account → Option ObjectError
contents_refusal size account =
    if size == 0 then None
    else (if not (is_valid_size (sliced_header + size)) then Some (Shared InvalidSize)
    else option_map (λ refusal. Shared (error_of refusal)) (shortage account (sliced_size size) 1))

-- ---- what a request does

-- what it is answered, and the account and the objects after it
pub record ObjectServed : Type 0 where
  pub reply : List ℕ
  pub account : Account
  pub objects : Objects

-- a reply that leaves both
abbrev pub told : ObjectReply → Objects → Account → ObjectServed
told reply objects account = record { reply = object_reply reply; account = account; objects = objects }

-- the refusal, which leaves both, or else what the request does
abbrev pub unless_refused : Option ObjectError → Objects → Account → ObjectServed → ObjectServed
unless_refused (Some e) objects account accepted = told (Refused e) objects account
unless_refused None objects account accepted = accepted

-- an object of no units more, the last one, its node in the block that was taken
abbrev pub made_in : ObjectKind → List ℕ → BlockTaken → Objects → Objects
made_in kind name taken objects = record {
  objects = objects.objects
      ++ record { name = name; kind = kind; units = 0; chunk = taken.spot.chunk; offset = taken.spot.offset } ∷ [];
  shape = taken.shape;
}

-- one heap block is taken, for the bytes that the kind says
abbrev pub made_by : ObjectKind → List ℕ → BlockTaken → Objects → ObjectServed
made_by kind name taken objects = told Done (made_in kind name taken objects) taken.account

abbrev pub made : Option ObjectKind → List ℕ → Objects → Account → ObjectServed
made None name objects account = told (Refused BadKind) objects account
made (Some kind) name objects account =
    unless_refused (make_refusal kind name objects account) objects account
    (made_by kind name (block_taken kind.block (hole_for kind.block objects.shape) objects.shape account) objects)

-- the account with an object's contents credited
abbrev pub contents_credited : DeclaredObject → Account → Account
contents_credited object account = credited account (content_ram (contents object)) (content_caps (contents object))

-- the account after an object has other units: its new contents are charged before the old ones are credited
abbrev pub resize_charged : ℕ → DeclaredObject → Account → Account
resize_charged units object account =
    let size = contents (with_units units object) in contents_credited object (charged account (content_ram size) (content_caps size))

-- the object has other units
abbrev pub changed : ℕ → DeclaredObject → Objects → Account → ObjectServed
changed units object objects account =
    told Done (record objects { objects = with_first (is_named object.name) (with_units units) objects.objects })
    (resize_charged units object account)

-- an object of just these units stays as it is, and nothing is tested
abbrev pub resized : ℕ → Option DeclaredObject → Objects → Account → ObjectServed
resized units None objects account = told (Refused (Shared NotFound)) objects account
resized units (Some object) objects account =
    if units == object.units then told Done objects account
    else unless_refused (contents_refusal (contents (with_units units object)) account) objects account
    (changed units object objects account)

-- an object is removed, with its contents and the block of its node
abbrev pub dropped : Option DeclaredObject → Objects → Account → ObjectServed
dropped None objects account = told (Refused (Shared NotFound)) objects account
dropped (Some object) objects account =
    told Done
    (record {
      objects = without_first (is_named object.name) objects.objects;
      shape = shape_given object.chunk object.offset objects.shape;
    })
    (contents_credited object account)

-- the objects of a kind are counted, if the server offers the kind
abbrev pub counted : Option ObjectKind → Objects → Account → ObjectServed
counted None objects account = told (Refused BadKind) objects account
counted (Some kind) objects account = told (Counted (count_by (is_of_kind kind.name) objects.objects)) objects account

-- the object at a place in the order of creation
abbrev pub named : Option DeclaredObject → Objects → Account → ObjectServed
named None objects account = told (Refused (Shared End)) objects account
named (Some object) objects account = told (Named object.kind.name object.name object.units) objects account

-- what a request does, if it is one, where the server offers these kinds
abbrev pub request_served : List ObjectKind → Option ObjectRequest → Objects → Account → ObjectServed
request_served kinds None objects account = told (Refused (Shared BadRequest)) objects account
request_served kinds (Some (Make kind name)) objects account = made (kind_named kind kinds) name objects account
request_served kinds (Some (Resize name units)) objects account = resized units (object_named name objects) objects account
request_served kinds (Some (Drop name)) objects account = dropped (object_named name objects) objects account
request_served kinds (Some Count) objects account = told (Counted (length objects.objects)) objects account
request_served kinds (Some (CountKind kind)) objects account = counted (kind_named kind kinds) objects account
request_served kinds (Some (Name place)) objects account = named (slice_get objects.objects place) objects account
request_served kinds (Some Stat) objects account = told (Quotas account) objects account

abbrev pub object_served : List ObjectKind → Objects → Account → List ℕ → ObjectServed
object_served kinds objects account text = request_served kinds (object_request text) objects account

-- ---- what is true of objects between requests

-- an object's node
abbrev pub node_of : DeclaredObject → Node
node_of object = record { name = object.name; asked = object.kind.block; chunk = object.chunk; offset = object.offset }

-- each object is of a kind that the server offers, and has a node
pub record AreObjects (kinds : List ObjectKind) (objects : Objects) : Type 0 where
  pub of_kinds : AllByRecursion (λ object. kind_named object.kind.name kinds ≡ Some object.kind) objects.objects
  pub nodes : AreNodesOf objects.shape (map node_of objects.objects)

-- ---- what objects are charged together

abbrev pub objects_ram : Objects → ℕ
objects_ram objects = kept_ram contents objects.objects objects.shape

abbrev pub objects_caps : Objects → ℕ
objects_caps objects = kept_caps contents objects.objects objects.shape

-- beside so many bytes and capabilities an account uses what objects are charged, and no more
pub record AreCharged (more_ram more_caps : ℕ) (objects : Objects) (account : Account) : Type 0 where
  pub ram : account.ram_used ≡ more_ram + objects_ram objects
  pub caps : account.caps_used ≡ more_caps + objects_caps objects
