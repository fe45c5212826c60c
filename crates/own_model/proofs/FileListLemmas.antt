-- Files of which one is rewritten or removed: its name, sums over them, and their nodes.
use Rattle.std.proofs.lemmas.Bool.Decides.{nat_tests}
use Rattle.std.proofs.Common.{arith, ◌≡◌, ℕ, ◌+◌, true, false, cond, List, [], ◌∷◌, Some, refl, subst, find, map, sum_by}
use Rattle.std.proofs.lemmas.List.Sums.{sum_by-cons}
use Rattle.std.proofs.lemmas.Option.{none-some, same_Some}
use Rattle.std.proofs.lemmas.Slice.Eq.{bytes_eq-Decides}
use Rattle.std.specs.Option.{option_map}
use Rattle.own_model.proofs.NodeListLemmas.{found_passes, find_map}
use Rattle.own_model.specs.FileService.{File, is_named, node_of, rewritten, without}
use Rattle.own_model.specs.Nodes.{has_name, without_first}

-- the file of a name has it
pub named_is : (name : List ℕ) (files : List File) (file : File) → find (is_named name) files ≡ Some file → file.name ≡ name
named_is name files file is = let passes = found_passes (is_named name) files file is in (bytes_eq-Decides file.name name).0 passes

-- the node of a name is that of the file of the name
pub node_named : (name : List ℕ) (files : List File) → find (has_name name) (map node_of files) ≡ option_map node_of (find (is_named name) files)
node_named name files = find_map node_of (has_name name) files

module _ (name bytes : List ℕ) where
  -- the file with these bytes
  abbrev with : File → File
  with file = record file { bytes = bytes }

  -- the nodes stay
  pub nodes-rewritten : (files : List File) → map node_of (rewritten name bytes files) ≡ map node_of files
  nodes-rewritten [] = refl
  nodes-rewritten (x ∷ rest) = grind (arith, nat_tests, nodes-rewritten rest)

  -- a sum changes by what the file's share does
  pub sum-rewritten : (f : File → ℕ) (files : List File) (file : File) → find (is_named name) files ≡ Some file →
      sum_by f (rewritten name bytes files) + f file ≡ sum_by f files + f (with file)
  sum-rewritten f [] file is = absurd (none-some file is)
  sum-rewritten f (x ∷ rest) file is =
      elim (is_named name x) as (λ b. cond b (Some x) (find (is_named name) rest) ≡ Some file →
      sum_by f (cond b (with x ∷ rest) (x ∷ rewritten name bytes rest)) + f file ≡ sum_by f (x ∷ rest) + f (with file)) [
        | true ↦ λ here. let same : x ≡ file = same_Some x file here in
            subst (λ y. sum_by f (with x ∷ rest) + f y ≡ sum_by f (x ∷ rest) + f (with y)) same (omega (arith, sum_by-cons f (with x) rest, sum_by-cons f x rest))
        | false ↦ λ there. omega (arith, sum_by-cons f x (rewritten name bytes rest), sum_by-cons f x rest, sum-rewritten f rest file there)
      ] is

module _ (name : List ℕ) where
  -- the file's node is removed
  pub nodes-without : (files : List File) → map node_of (without name files) ≡ without_first (has_name name) (map node_of files)
  nodes-without [] = refl
  nodes-without (x ∷ rest) = grind (arith, nat_tests, nodes-without rest)

  -- a sum is less by what the file's share was
  pub sum-without : (f : File → ℕ) (files : List File) (file : File) → find (is_named name) files ≡ Some file → sum_by f (without name files) + f file ≡ sum_by f files
  sum-without f [] file is = absurd (none-some file is)
  sum-without f (x ∷ rest) file is =
      elim (is_named name x) as (λ b. cond b (Some x) (find (is_named name) rest) ≡ Some file → sum_by f (cond b rest (x ∷ without name rest)) + f file ≡ sum_by f (x ∷ rest)) [
        | true ↦ λ here. let same : x ≡ file = same_Some x file here in subst (λ y. sum_by f rest + f y ≡ sum_by f (x ∷ rest)) same (omega (arith, sum_by-cons f x rest))
        | false ↦ λ there. omega (arith, sum_by-cons f x (without name rest), sum_by-cons f x rest, sum-without f rest file there)
      ] is
