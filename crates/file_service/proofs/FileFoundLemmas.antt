-- A file that is found by its name.
use Rattle.std.proofs.Common.{◌≡◌, ℕ, ◌≤◌, true, false, true≢false, List, [], ◌∷◌, ◌++◌, length, map, Some, None, refl, sym, ap, ◌∙◌, inl, inr, arith}
use Rattle.std.proofs.lemmas.Bool.{cases_eq, false_from_ne_true}
use Rattle.std.proofs.lemmas.Bool.Decides.{nat_tests}
use Rattle.std.proofs.lemmas.Option.{none-some}
use Rattle.std.proofs.lemmas.Slice.Eq.{bytes_eq-Decides}
use Rattle.std.specs.Prelude.{find, Option, IfNone}
use Rattle.std.specs.Str.{bytes_eq}
use Rattle.own_model.specs.FileService.{File, is_named, file_named}
use Rattle.own_model.specs.NatMap.{NatMap}
use Rattle.own_model.specs.OwnHeap.{OwnHeap}
use Rattle.own_model.specs.Text.{is_name}
use Rattle.session_nodes.specs.Node.{StoredNode}
use Rattle.session_nodes.specs.NodeList.{IsFound, NoneHas}
use Rattle.session_nodes.specs.Order.{node_at, nodes_from}
use Rattle.session_nodes.proofs.LinkLemmas.{listed_first, listed_later}
use Rattle.file_service.specs.Files.{file_at, files_of}
use Rattle.file_service.proofs.FileKeptLemmas.{files_are}
use Rattle.file_service.proofs.FileListLemmas.{append_map, find_behind}

-- a name that is one is short
pub name_fits : (name : List ℕ) → is_name name ≡ true → length name ≤ 32
name_fits name is = grind (arith, nat_tests)

-- if no node of these blocks has the name there is no file of it
pub none_named : (nodes : OwnHeap) (contents : NatMap (List ℕ)) (name : List ℕ) (xs : List ℕ) → NoneHas nodes name xs → find (is_named name) (map (file_at nodes contents) xs) ≡ None
none_named nodes contents name [] none = refl
none_named nodes contents name (x ∷ xs) none =
    let other : bytes_eq (node_at nodes x).name name ≡ false = false_from_ne_true _ (λ is. none x (listed_first x xs) ((bytes_eq-Decides (node_at nodes x).name name).0 is)) in
    rw other (none_named nodes contents name xs (λ b t. none b (listed_later x b xs t)))

-- and if there is no file of it no node has the name
pub none_has : (nodes : OwnHeap) (contents : NatMap (List ℕ)) (name : List ℕ) (xs : List ℕ) → find (is_named name) (map (file_at nodes contents) xs) ≡ None → NoneHas nodes name xs
none_has nodes contents name [] none b t is = true≢false (sym t)
none_has nodes contents name (x ∷ xs) none b t is = elim (bytes_eq (node_at nodes x).name name) as (λ v. bytes_eq (node_at nodes x).name name ≡ v → ⊥) [
  | true ↦ λ e. none-some (file_at nodes contents x) (sym none ∙ rw e refl)
  | false ↦ λ e. elim (cases_eq b x) [
    | inl here ↦ true≢false (sym ((bytes_eq-Decides (node_at nodes x).name name).1 (ap (λ y. (node_at nodes y).name) (sym here) ∙ is)) ∙ e)
    | inr other ↦ none_has nodes contents name xs (sym (rw e refl) ∙ none) b (grind (arith, nat_tests)) is
  ]
] refl

-- so where no node has been found no file has the name
pub no_file : {X : Type 0} (o : Option X) (first : ℕ) (nodes : OwnHeap) (contents : NatMap (List ℕ)) (name : List ℕ) → IfNone o (NoneHas nodes name (nodes_from first nodes)) → IfNone o (file_named name (files_of first nodes contents) ≡ None)
no_file None first nodes contents name none = none_named nodes contents name (nodes_from first nodes) none
no_file (Some x) first nodes contents name none = none

module _ (first last : ℕ) (nodes : OwnHeap) (contents : NatMap (List ℕ)) (name : List ℕ) (previous address : ℕ) (node : StoredNode)
    (found : IsFound first last nodes contents name previous address node) where
  abbrev f : ℕ → File
  f = file_at nodes contents

  -- the file of the node has the name
  pub file_name : (f address).name ≡ name
  file_name = ap (λ (n : StoredNode). n.name) (sym found.node_is) ∙ found.named

  pub found_named : file_named name (files_of first nodes contents) ≡ Some (f address)
  found_named =
      ap (find (is_named name)) (files_are first last nodes contents (found.before ++ address ∷ found.behind) found.stand ∙ append_map f f found.before (address ∷ found.behind))
      ∙ find_behind name (map f found.before) (f address) (map f found.behind) (none_named nodes contents name found.before found.others) ((bytes_eq-Decides (node_at nodes address).name name).1 file_name)
