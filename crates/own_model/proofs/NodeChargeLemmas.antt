-- What nodes and contents are charged, and the limits and the use of an account after a block is taken.
use Rattle.std.proofs.Common.{rules, ◌≡◌, ℕ, ◌+◌, length, refl, arith, sum_by, length-append, length-set}
use Rattle.std.proofs.lemmas.Bool.Decides.{nat_tests}
use Rattle.std.proofs.lemmas.List.Sums.{sum_by_push}
use Rattle.std.specs.Prelude.{Option, Some, None}
use Rattle.own_model.proofs.HeapBlockLemmas.{bytes-taken, bytes-given}
use Rattle.own_model.proofs.HeapOwnLemmas.{chunk_bytes-set}
use Rattle.own_model.proofs.StepLemmas.{covers, accepted_growth}
use Rattle.own_model.specs.Account.{Account, WithinLimits}
use Rattle.own_model.specs.BestFit.{Spot, chunk_of, given_in}
use Rattle.own_model.specs.Growth.{Shape, Growth, growth_of, new_hole, small_refusal, shape_taken, shape_given, shape_grown}
use Rattle.own_model.specs.Heap.{bytes_in}
use Rattle.own_model.specs.Nodes.{BlockTaken, block_taken}

-- the bytes of a heap's chunks, and their number
abbrev pub heap_ram : Shape → ℕ
heap_ram shape = sum_by bytes_in shape.chunks

abbrev pub heap_caps : Shape → ℕ
heap_caps shape = length shape.chunks

-- a block in a hole changes neither
pub taken_charged : (n : ℕ) (hole : Spot) (shape : Shape) → (heap_ram (shape_taken n hole shape) ≡ heap_ram shape) × (heap_caps (shape_taken n hole shape) ≡ heap_caps shape)
taken_charged n hole shape = grind (arith, nat_tests, chunk_bytes-set, bytes-taken, length-set)

-- nor does a block given back
pub given_charged : (chunk offset : ℕ) (shape : Shape) → (heap_ram (shape_given chunk offset shape) ≡ heap_ram shape) × (heap_caps (shape_given chunk offset shape) ≡ heap_caps shape)
given_charged chunk offset shape =
    let blocks = chunk_of shape.chunks chunk in
    let after = given_in offset blocks in
    (chunk_bytes-set shape.chunks chunk after (bytes-given offset blocks), length-set shape.chunks chunk after)

-- a chunk more is charged its bytes and a capability
pub chunk_charged : (growth : Growth) (shape : Shape) → (heap_ram (shape_grown growth shape) ≡ heap_ram shape + growth.bytes) × (heap_caps (shape_grown growth shape) ≡ heap_caps shape + 1)
chunk_charged growth shape = grind (arith, nat_tests, sum_by_push, length-append)

-- an account uses more by what the heap has more, and its limits stay
pub record IsChargedBlock (shape : Shape) (account : Account) (taken : BlockTaken) : Type 0 where
  pub ram : taken.account.ram_used + heap_ram shape ≡ account.ram_used + heap_ram taken.shape
  pub caps : taken.account.caps_used + heap_caps shape ≡ account.caps_used + heap_caps taken.shape
  pub ram_limit : taken.account.ram_limit ≡ account.ram_limit
  pub caps_limit : taken.account.caps_limit ≡ account.caps_limit

pub block_charged : (n : ℕ) (found : Option Spot) (shape : Shape) (account : Account) → IsChargedBlock shape account (block_taken n found shape account)
block_charged n (Some hole) shape account = let same = taken_charged n hole shape in record { ram = omega (arith, same.0); caps = omega (arith, same.1); ram_limit = refl; caps_limit = refl }
block_charged n None shape account =
    let growth = growth_of n shape account in
    let same = taken_charged n (new_hole growth shape) (shape_grown growth shape) in
    let more = chunk_charged growth shape in
    record { ram = omega (arith, same.0, more.0); caps = omega (arith, same.1, more.1); ram_limit = refl; caps_limit = refl }

-- within its limits, if it is accepted
pub block_within : (n : ℕ) (found : Option Spot) (shape : Shape) (account : Account) → small_refusal n found shape account ≡ None → WithinLimits account → WithinLimits (block_taken n found shape account).account
block_within n (Some hole) shape account accepted h = h
block_within n None shape account accepted h = search (rules, covers, accepted_growth)
