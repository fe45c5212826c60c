-- An object that is found by its name.
use Rattle.std.proofs.Common.{◌≡◌, ℕ, true, false, List, [], ◌∷◌, ◌++◌, map, Some, None, refl, sym, ap, subst, ◌∙◌}
use Rattle.std.proofs.lemmas.Bool.{false_from_ne_true}
use Rattle.std.proofs.lemmas.Option.{none-some}
use Rattle.std.proofs.lemmas.Slice.Eq.{bytes_eq-Decides}
use Rattle.std.specs.Prelude.{find, Option, IfNone}
use Rattle.std.specs.Str.{bytes_eq}
use Rattle.own_model.specs.NatMap.{NatMap}
use Rattle.own_model.specs.ObjectKinds.{ObjectKind}
use Rattle.own_model.specs.ObjectService.{is_named, object_named}
use Rattle.own_model.specs.OwnHeap.{OwnHeap}
use Rattle.session_nodes.specs.Frame.{is_listed}
use Rattle.session_nodes.specs.Node.{StoredNode}
use Rattle.session_nodes.specs.NodeList.{IsFound, NoneHas}
use Rattle.session_nodes.specs.Order.{node_at, nodes_from}
use Rattle.session_nodes.proofs.KeptLemmas.{blocks_are}
use Rattle.session_nodes.proofs.LinkLemmas.{listed_first, listed_later}
use Rattle.session_nodes.proofs.SearchLemmas.{in_blocks}
use Rattle.object_service.specs.Objects.{object_at, objects_of}
use Rattle.object_service.proofs.ListLemmas.{append_map, find_behind}

-- a node that is found is listed, and found by its own name
module _ (first last : ℕ) (nodes : OwnHeap) (contents : NatMap (List ℕ)) (name : List ℕ) (previous address : ℕ) (node : StoredNode) (found : IsFound first last nodes contents name previous address node) where
  pub listed_found : is_listed (nodes_from first nodes) address ≡ true
  listed_found = ap (λ bs. is_listed bs address) (blocks_are first last nodes contents (found.before ++ address ∷ found.behind) found.stand) ∙ in_blocks first last nodes contents name previous address node found

  pub found_own : IsFound first last nodes contents (node_at nodes address).name previous address node
  found_own = subst (λ n. IsFound first last nodes contents n previous address node) (sym (ap (λ (n : StoredNode). n.name) (sym found.node_is) ∙ found.named)) found

module _ (kinds : List ObjectKind) (nodes : OwnHeap) (name : List ℕ) where
  -- if no node of these blocks has the name there is no object of it
  pub none_named : (xs : List ℕ) → NoneHas nodes name xs → find (is_named name) (map (object_at kinds nodes) xs) ≡ None
  none_named [] none = refl
  none_named (x ∷ xs) none =
      let other : bytes_eq (node_at nodes x).name name ≡ false = false_from_ne_true _ (λ is. none x (listed_first x xs) ((bytes_eq-Decides (node_at nodes x).name name).0 is)) in
      rw other (none_named xs (λ b t. none b (listed_later x b xs t)))

  -- and if no node has been found
  pub none_found : {X : Type 0} (o : Option X) (first : ℕ) → IfNone o (NoneHas nodes name (nodes_from first nodes)) → o ≡ None → object_named name (objects_of kinds first nodes) ≡ None
  none_found None first none is = none_named (nodes_from first nodes) none
  none_found (Some x) first none is = absurd (none-some x (sym is))

  -- the object of a node that is found has the name
  module _ (first last : ℕ) (contents : NatMap (List ℕ)) (previous address : ℕ) (node : StoredNode) (found : IsFound first last nodes contents name previous address node) where
    pub object_name : (node_at nodes address).name ≡ name
    object_name = ap (λ (n : StoredNode). n.name) (sym found.node_is) ∙ found.named

    pub is_of_name : is_named name (object_at kinds nodes address) ≡ true
    is_of_name = (bytes_eq-Decides (node_at nodes address).name name).1 object_name

    pub blocks : nodes_from first nodes ≡ found.before ++ address ∷ found.behind
    blocks = blocks_are first last nodes contents (found.before ++ address ∷ found.behind) found.stand

    pub none_before : find (is_named name) (map (object_at kinds nodes) found.before) ≡ None
    none_before = none_named found.before found.others

    pub objects_around : map (object_at kinds nodes) (nodes_from first nodes) ≡ map (object_at kinds nodes) found.before ++ object_at kinds nodes address ∷ map (object_at kinds nodes) found.behind
    objects_around = ap (map (object_at kinds nodes)) blocks ∙ append_map (object_at kinds nodes) found.before (address ∷ found.behind)

    pub found_named : object_named name (objects_of kinds first nodes) ≡ Some (object_at kinds nodes address)
    found_named = ap (find (is_named name)) objects_around ∙ find_behind (is_named name) (map (object_at kinds nodes) found.before) (object_at kinds nodes address) (map (object_at kinds nodes) found.behind) none_before is_of_name
