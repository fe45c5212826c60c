-- What the calls on nodes and contents do to what a session has.
use Rattle.std.specs.Prelude.{◌≡◌, ℕ, ◌+◌, ◌-◌, ◌≤◌, List, [], length, take, IsSome, Some, None}
use Rattle.std.specs.Option.{unwrap_or}
use Rattle.std.specs.FinMap.{get, insert, remove}
use Rattle.own_model.specs.Account.{charged, credited}
use Rattle.own_model.specs.BestFit.{Spot, chunk_of, used_at}
use Rattle.own_model.specs.Growth.{hole_for, growth_of, new_hole, shape_given}
use Rattle.own_model.specs.HeapStep.{with_block, with_chunk, with_poked, without_block}
use Rattle.own_model.specs.NatMap.{NatMap}
use Rattle.own_model.specs.OwnHeap.{payload_start, start_of}
use Rattle.own_model.specs.OwnState.{zeros, with_part}
use Rattle.own_model.specs.Sliced.{sliced_header, sliced_size, block_size}
use Rattle.session_nodes.specs.SoundHeaps.{Stock}

-- the payload that starts at an address, or no bytes
abbrev pub payload_in : NatMap (List ℕ) → ℕ → List ℕ
payload_in payloads address = unwrap_or (get payloads address) []

-- ---- nodes

-- a node's block of so many bytes is allocated in this hole
pub record TakesInHole (asked : ℕ) (hole : Spot) (address : ℕ) (old new : Stock) : Type 0 where
  pub at : address ≡ payload_start old.nodes hole
  pub is : new ≡ record old { nodes = with_block asked hole old.nodes }

-- it is allocated in a chunk by which the heap has grown, and which is charged
pub record TakesInChunk (asked address : ℕ) (old new : Stock) : Type 0 where
  pub start : ℕ
  pub at : address ≡ start + 16
  pub is : let growth = growth_of asked old.nodes.shape old.account in
      new ≡ record old {
        account = charged old.account growth.bytes 1;
        nodes = with_block asked (new_hole growth old.nodes.shape) (with_chunk growth start old.nodes);
      }

-- a node's block is allocated: in the best hole, or otherwise in a new chunk; no payload was there
pub record TakesNode (asked address : ℕ) (old new : Stock) : Type 0 where
  pub free : get old.nodes.payloads address ≡ None
  pub in_hole : (hole : Spot) → hole_for asked old.nodes.shape ≡ Some hole → TakesInHole asked hole address old new
  pub in_chunk : hole_for asked old.nodes.shape ≡ None → TakesInChunk asked address old new

-- a node's block is freed: a hole is in its place
pub record GivesNode (address : ℕ) (old new : Stock) : Type 0 where
  pub is : new ≡ record old { nodes = without_block address old.nodes }
  pub place : (chunk offset size : ℕ) → used_at offset (chunk_of old.nodes.shape.chunks chunk) ≡ Some size →
      address ≡ start_of old.nodes chunk + offset + 16 → new.nodes.shape ≡ shape_given chunk offset old.nodes.shape

-- bytes overwrite a node's payload from an offset on
abbrev pub node_stored : ℕ → ℕ → List ℕ → Stock → Stock
node_stored address offset bytes old = record old { nodes = with_poked address (payload_in old.nodes.payloads address) offset bytes old.nodes }

-- ---- contents

-- a content of n bytes is allocated, all zero, and charged
abbrev pub content_taken : ℕ → ℕ → Stock → Stock
content_taken bytes address old = record old {
  account = charged old.account (sliced_size bytes) 1;
  contents = insert old.contents address (zeros (sliced_size bytes - sliced_header));
}

-- a content is freed and credited
abbrev pub content_given : ℕ → Stock → Stock
content_given address old = record old {
  account = credited old.account (block_size (payload_in old.contents address)) 1;
  contents = remove old.contents address;
}

-- bytes overwrite a content from an offset on
abbrev pub content_written : ℕ → ℕ → List ℕ → Stock → Stock
content_written address offset bytes old =
    record old { contents = insert old.contents address (with_part (payload_in old.contents address) offset bytes) }

-- the first bytes of a content overwrite those of another
abbrev pub content_copied : ℕ → ℕ → ℕ → Stock → Stock
content_copied from to count old = content_written to 0 (take count (payload_in old.contents from)) old

-- a content starts at an address, and has so many bytes from an offset on
pub record HasBytes (contents : NatMap (List ℕ)) (address offset count : ℕ) : Type 0 where
  pub there : IsSome (get contents address)
  pub within : offset + count ≤ length (payload_in contents address)
