-- Requests leave objects as objects are.
use Rattle.std.proofs.Common.{◌≡◌, ℕ, true, List, [], ◌∷◌, Some, refl, sym, ap, subst, ◌∙◌, find, map}
use Rattle.std.proofs.lemmas.List.{map-append}
use Rattle.std.specs.Prelude.{None}
use Rattle.std.specs.Option.{option_map}
use Rattle.own_model.proofs.ListLemmas.{all_append}
use Rattle.own_model.proofs.NodeLemmas.{nodes_taken, nodes_removed, no_nodes_are}
use Rattle.own_model.proofs.NodeListLemmas.{all_without, all_with, map_with, map_without, find_map}
use Rattle.own_model.proofs.ObjectRequestLemmas.{KeptByObjectRequests, request_kept, block_of_kind, with_other_units, without_object}
use Rattle.own_model.specs.Account.{Account}
use Rattle.own_model.specs.Growth.{hole_for, small_refusal}
use Rattle.own_model.specs.Nodes.{AreNodesOf, has_name}
use Rattle.own_model.specs.ObjectKinds.{ObjectKind, kind_named}
use Rattle.own_model.specs.ObjectService.{Objects, DeclaredObject, AreObjects, is_named, object_named, with_units, node_of, made_in}
use Rattle.own_model.specs.ObjectText.{object_request}
use Rattle.own_model.specs.ObjectTheorems.{NoObjectsAreObjects, RequestsKeepObjects}
use Rattle.own_model.specs.Text.{is_name}

-- an object is of a kind that the server offers
abbrev IsOfKinds : List ObjectKind → DeclaredObject → Type 0
IsOfKinds kinds object = kind_named object.kind.name kinds ≡ Some object.kind

-- the node of a name is that of the object of the name
node_named : (name : List ℕ) (objects : List DeclaredObject) → find (has_name name) (map node_of objects) ≡ option_map node_of (find (is_named name) objects)
node_named name objects = find_map node_of (has_name name) objects

pub no_objects_are : NoObjectsAreObjects
no_objects_are kinds = record { of_kinds = tt; nodes = no_nodes_are }

module _ (kinds : List ObjectKind) (objects : Objects) (account : Account) (h : AreObjects kinds objects) where
  made_are : (kind : ObjectKind) (name : List ℕ) → kind_named kind.name kinds ≡ Some kind → is_name name ≡ true → object_named name objects ≡ None →
      small_refusal kind.block (hole_for kind.block objects.shape) objects.shape account ≡ None → AreObjects kinds (made_in kind name (block_of_kind kind objects account) objects)
  made_are kind name offered is free accepted =
      let taken = block_of_kind kind objects account in
      let new : DeclaredObject = record { name = name; kind = kind; units = 0; chunk = taken.spot.chunk; offset = taken.spot.offset } in
      let no_node : find (has_name name) (map node_of objects.objects) ≡ None = node_named name objects.objects ∙ ap (option_map node_of) free in
      record {
        of_kinds = all_append (IsOfKinds kinds) objects.objects (new ∷ []) h.of_kinds (offered, tt);
        nodes = subst (AreNodesOf taken.shape) (sym (map-append node_of objects.objects (new ∷ [])))
            (nodes_taken name kind.block objects.shape account (map node_of objects.objects) h.nodes is no_node (hole_for kind.block objects.shape) refl accepted);
      }

  resized_are : (object : DeclaredObject) (units : ℕ) → AreObjects kinds (with_other_units object units objects)
  resized_are object units = record {
    of_kinds = all_with (is_named object.name) (with_units units) (IsOfKinds kinds) (λ x is. is) objects.objects h.of_kinds;
    nodes = subst (AreNodesOf objects.shape) (sym (map_with (is_named object.name) (with_units units) node_of (λ x. refl) objects.objects)) h.nodes;
  }

  dropped_are : (object : DeclaredObject) → object_named object.name objects ≡ Some object → AreObjects kinds (without_object object objects)
  dropped_are object there = record {
    of_kinds = all_without (is_named object.name) (IsOfKinds kinds) objects.objects h.of_kinds;
    nodes = subst (AreNodesOf (without_object object objects).shape) (sym (map_without node_of (has_name object.name) objects.objects))
        (nodes_removed (node_of object) objects.shape (map node_of objects.objects) h.nodes (node_named object.name objects.objects ∙ ap (option_map node_of) there));
  }

abbrev pub AreKept : List ObjectKind → Objects → Account → Type 0
AreKept kinds objects account = AreObjects kinds objects

pub objects_kept : (kinds : List ObjectKind) (objects : Objects) (account : Account) → AreObjects kinds objects → KeptByObjectRequests kinds (AreKept kinds) objects account
objects_kept kinds objects account h = record {
  makes = made_are kinds objects account h;
  resizes = λ object units there accepted. resized_are kinds objects account h object units;
  drops = dropped_are kinds objects account h;
}

pub objects_stay : RequestsKeepObjects
objects_stay kinds objects account text h = request_kept kinds (AreKept kinds) objects account h (objects_kept kinds objects account h) (object_request text)
