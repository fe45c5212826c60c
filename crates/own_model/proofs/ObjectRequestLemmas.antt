-- What a request can do to objects and their account, and what is known where it is accepted.
use Rattle.std.proofs.Common.{◌≡◌, ℕ, ◌==◌, Bool, true, false, cond, not, List, Some, refl, sym, subst, slice_get}
use Rattle.std.proofs.lemmas.Option.{none-some}
use Rattle.std.specs.Prelude.{Option, None, is_some}
use Rattle.std.specs.Option.{option_map}
use Rattle.std.proofs.lemmas.Slice.Eq.{bytes_eq-Decides}
use Rattle.own_model.proofs.NatMapLemmas.{none_of}
use Rattle.own_model.proofs.NodeListLemmas.{found_passes}
use Rattle.trade_base.specs.declared.refusal.Refusal.{Refusal}
use Rattle.own_model.specs.Account.{Account}
use Rattle.own_model.specs.FileService.{error_of}
use Rattle.own_model.specs.Growth.{hole_for, small_refusal, shape_given}
use Rattle.own_model.specs.Nodes.{BlockTaken, with_first, without_first, block_taken}
use Rattle.own_model.specs.ObjectKinds.{ObjectKind, is_kind, kind_named}
use Rattle.own_model.specs.ObjectService.{Objects, DeclaredObject, ObjectServed, is_named, object_named, contents, with_units, make_refusal, contents_refusal, unless_refused, made_in, made_by, made, contents_credited, resize_charged, told, changed, resized, dropped, counted, named, request_served}
use Rattle.own_model.specs.ObjectText.{ObjectRequest, ObjectError}
use Rattle.own_model.specs.ObjectText.ObjectRequest.{Make, Resize, Drop, Count, CountKind, Name, Stat}
use Rattle.own_model.specs.ObjectText.ObjectError.{Shared}
use Rattle.own_model.specs.ObjectText.ObjectReply.{Done}
use Rattle.own_model.specs.Text.{is_name}

-- the objects with other units of one
abbrev pub with_other_units : DeclaredObject → ℕ → Objects → Objects
with_other_units object units objects = record objects { objects = with_first (is_named object.name) (with_units units) objects.objects }

-- the objects without one
abbrev pub without_object : DeclaredObject → Objects → Objects
without_object object objects = record {
  objects = without_first (is_named object.name) objects.objects;
  shape = shape_given object.chunk object.offset objects.shape;
}

-- the block that is taken for a node of a kind
abbrev pub block_of_kind : ObjectKind → Objects → Account → BlockTaken
block_of_kind kind objects account = block_taken kind.block (hole_for kind.block objects.shape) objects.shape account

-- P holds of objects and their account after each thing that a request can do to them
pub record KeptByObjectRequests (kinds : List ObjectKind) (P : Objects → Account → Type 0) (objects : Objects) (account : Account) : Type 0 where
  -- a new object, its node in the block that is taken
  pub makes : (kind : ObjectKind) (name : List ℕ) → kind_named kind.name kinds ≡ Some kind → is_name name ≡ true → object_named name objects ≡ None →
      small_refusal kind.block (hole_for kind.block objects.shape) objects.shape account ≡ None →
      P (made_in kind name (block_of_kind kind objects account) objects) (block_of_kind kind objects account).account
  -- other units that are accepted
  pub resizes : (object : DeclaredObject) (units : ℕ) → object_named object.name objects ≡ Some object → contents_refusal (contents (with_units units object)) account ≡ None →
      P (with_other_units object units objects) (resize_charged units object account)
  -- an object dropped
  pub drops : (object : DeclaredObject) → object_named object.name objects ≡ Some object → P (without_object object objects) (contents_credited object account)

-- what gives nothing by its own name was nothing
pub shared_none : (o : Option Refusal) → option_map (λ refusal. Shared (error_of refusal)) o ≡ None → o ≡ None
shared_none None none = refl
shared_none (Some refusal) none = absurd (none-some (Shared (error_of refusal)) (sym none))

-- a new object that is accepted has a name that no object has, and room
pub make_parts : (a b : Bool) (x y : ObjectError) (o : Option Refusal) → cond (not a) (Some x) (cond b (Some y) (option_map (λ refusal. Shared (error_of refusal)) o)) ≡ None → (a ≡ true) × (b ≡ false) × (o ≡ None)
make_parts false b x y o accepted = absurd (none-some x (sym accepted))
make_parts true true x y o accepted = absurd (none-some y (sym accepted))
make_parts true false x y o accepted = (refl, refl, shared_none o accepted)

-- the kind of a name is that of its own
pub own_kind : (kinds : List ObjectKind) (name : List ℕ) (kind : ObjectKind) → kind_named name kinds ≡ Some kind → kind_named kind.name kinds ≡ Some kind
own_kind kinds name kind is = subst (λ own. kind_named own kinds ≡ Some kind) (sym ((bytes_eq-Decides kind.name name).0 (found_passes (is_kind name) kinds kind is))) is

-- the object of a name is that of its own
pub own_name : (objects : Objects) (name : List ℕ) (object : DeclaredObject) → object_named name objects ≡ Some object → object.name ≡ name
own_name objects name object is = (bytes_eq-Decides object.name name).0 (found_passes (is_named name) objects.objects object is)

pub itself : (objects : Objects) (name : List ℕ) (object : DeclaredObject) → object_named name objects ≡ Some object → object_named object.name objects ≡ Some object
itself objects name object is = subst (λ own. object_named own objects ≡ Some object) (sym (own_name objects name object is)) is

module _ (kinds : List ObjectKind) (P : Objects → Account → Type 0) (objects : Objects) (account : Account) (stays : P objects account) (keeps : KeptByObjectRequests kinds P objects account) where
  abbrev Kept : ObjectServed → Type 0
  Kept o = P o.objects o.account

  unless_kept : (why : Option ObjectError) (o : ObjectServed) → (why ≡ None → Kept o) → Kept (unless_refused why objects account o)
  unless_kept None o kept = kept refl
  unless_kept (Some e) o kept = stays

  made_kept : (asked name : List ℕ) (found : Option ObjectKind) → kind_named asked kinds ≡ found → Kept (made found name objects account)
  made_kept asked name None is = stays
  made_kept asked name (Some kind) is = unless_kept (make_refusal kind name objects account) (made_by kind name (block_of_kind kind objects account) objects) (λ accepted.
      let parts = make_parts (is_name name) (is_some (object_named name objects)) _ _ (small_refusal kind.block (hole_for kind.block objects.shape) objects.shape account) accepted in
      keeps.makes kind name (own_kind kinds asked kind is) parts.0 (none_of (object_named name objects) parts.1) parts.2)

  resized_kept : (name : List ℕ) (units : ℕ) (found : Option DeclaredObject) → object_named name objects ≡ found → Kept (resized units found objects account)
  resized_kept name units None is = stays
  resized_kept name units (Some object) is =
      let why = contents_refusal (contents (with_units units object)) account in
      elim (units == object.units) as (λ b. Kept (cond b (told Done objects account) (unless_refused why objects account (changed units object objects account)))) [
        | true ↦ stays
        | false ↦ unless_kept why (changed units object objects account) (keeps.resizes object units (itself objects name object is))
      ]

  dropped_kept : (name : List ℕ) (found : Option DeclaredObject) → object_named name objects ≡ found → Kept (dropped found objects account)
  dropped_kept name None is = stays
  dropped_kept name (Some object) is = keeps.drops object (itself objects name object is)

  counted_kept : (found : Option ObjectKind) → Kept (counted found objects account)
  counted_kept None = stays
  counted_kept (Some kind) = stays

  named_kept : (found : Option DeclaredObject) → Kept (named found objects account)
  named_kept None = stays
  named_kept (Some object) = stays

  pub request_kept : (request : Option ObjectRequest) → Kept (request_served kinds request objects account)
  request_kept None = stays
  request_kept (Some (Make kind name)) = made_kept kind name (kind_named kind kinds) refl
  request_kept (Some (Resize name units)) = resized_kept name units (object_named name objects) refl
  request_kept (Some (Drop name)) = dropped_kept name (object_named name objects) refl
  request_kept (Some Count) = stays
  request_kept (Some (CountKind kind)) = counted_kept (kind_named kind kinds)
  request_kept (Some (Name place)) = named_kept (slice_get objects.objects place)
  request_kept (Some Stat) = stays
