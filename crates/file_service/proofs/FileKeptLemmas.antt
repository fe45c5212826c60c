-- Files that stay while others are created, changed and removed.
use Rattle.std.proofs.Common.{◌≡◌, ℕ, List, map, ap}
use Rattle.own_model.specs.NatMap.{NatMap}
use Rattle.own_model.specs.OwnHeap.{OwnHeap}
use Rattle.file_service.specs.Files.{file_at, files_of}
use Rattle.session_nodes.specs.Order.{StandAt}
use Rattle.session_nodes.specs.Order.{AllStay, Stays}
use Rattle.session_nodes.proofs.KeptLemmas.{blocks_are, same_bytes}
use Rattle.session_nodes.proofs.LinkLemmas.{map_kept}

-- the files are those of the blocks
pub files_are : (first last : ℕ) (nodes : OwnHeap) (contents : NatMap (List ℕ)) (blocks : List ℕ) → StandAt first last nodes contents blocks → (files_of first nodes contents).files ≡ map (file_at nodes contents) blocks
files_are first last nodes contents blocks stand = ap (map (file_at nodes contents)) (blocks_are first last nodes contents blocks stand)

-- the file of a node that stays is the same
pub same_file : (nodes later : OwnHeap) (contents after : NatMap (List ℕ)) (b : ℕ) → Stays nodes later contents after b → file_at later after b ≡ file_at nodes contents b
same_file nodes later contents after b stays =
    λ i. record { name = stays.name i; bytes = same_bytes nodes later contents after b stays i; chunk = stays.chunk i; offset = stays.offset i }

pub files_kept : (nodes later : OwnHeap) (contents after : NatMap (List ℕ)) (blocks : List ℕ) → AllStay nodes later contents after blocks → map (file_at later after) blocks ≡ map (file_at nodes contents) blocks
files_kept nodes later contents after blocks stays = map_kept (file_at nodes contents) (file_at later after) blocks (λ b t. same_file nodes later contents after b (stays b t))
