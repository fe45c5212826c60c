-- What a contract sees of a sliced heap: its blocks, as the account's share of the memory and of the heap window holds them.
use Rattle.std.specs.Prelude.{◌≡◌, ◌≢◌, ℕ, ◌+◌, ◌*◌, ◌%◌, ◌≤◌, ◌==◌, true, false, cond, ◌⊎◌, List, [], ◌∷◌, Option, Some, drop, length, slice_range}
use Rattle.std.specs.FinMap.{get, len}
use Rattle.std.specs.Option.{option_map}
use Rattle.trade_base.specs.Word.{word_of}
use Rattle.own_model.specs.NatMap.{NatMap, picked}
use Rattle.own_model.specs.Moved.{moved_up}
use Rattle.own_model.specs.Region.{Region}
use Rattle.own_model.specs.Sliced.{sliced_header as header}
use Rattle.dataspace_core.specs.Store.{Store, Part, PartBecomes, part, bytes_of}
use Rattle.dataspace_core.specs.Share.{Share}
pub use Rattle.sliced_heap.specs.Window.{sliced_tag, is_sliced_tag, sliced_regions, block_regions}
use Rattle.sliced_heap.specs.Chain.{link_to, is_listed, IsChain}

-- what a region's dataspace holds after the header
abbrev pub payload_of : NatMap (List ℕ) → Region → Option (List ℕ)
payload_of spaces region = option_map (drop header) (get spaces region.of)

-- the sliced blocks of a share: the payload of each by the address where it starts
unfoldable pub sliced_of : Share → NatMap (List ℕ)
sliced_of share = moved_up header (picked (payload_of share.part.spaces) (block_regions share))

-- ---- what the headers say

-- a word of a dataspace
unfoldable pub word_at : Part → ℕ → ℕ → ℕ
word_at part offset ds = word_of (slice_range (bytes_of part ds) offset (offset + 8))

-- the link to the block after
abbrev pub next_in : Part → ℕ → ℕ
next_in part ds = word_at part 0 ds

-- the link to the block before
abbrev pub previous_in : Part → ℕ → ℕ
previous_in part ds = word_at part 8 ds

-- where the block's region starts
abbrev pub start_in : Part → ℕ → ℕ
start_in part ds = word_at part 16 ds

-- a dataspace is whole pages, all of which are attached as a block at the address in its header
pub record Stands (share : Share) (ds : ℕ) : Type 0 where
  pub bytes : List ℕ
  pub pages : ℕ
  pub there : get share.part.spaces ds ≡ Some bytes
  pub some : 1 ≤ pages
  pub whole : length bytes ≡ pages * 4096
  pub region : get (block_regions share) (start_in share.part ds) ≡ Some (record { of = ds; pages = pages })

-- the blocks that the first link leads to are those whose regions keep the number of a sliced block, and each stands
pub record IsLinked (share : Share) (first : ℕ) : Type 0 where
  pub blocks : List ℕ
  pub chain : IsChain (next_in share.part) (previous_in share.part) first blocks
  pub stands : (ds : ℕ) → is_listed blocks ds ≡ true → Stands share ds
  pub all : (start : ℕ) (region : Region) → get (block_regions share) start ≡ Some region → (is_listed blocks region.of ≡ true) × (start_in share.part region.of ≡ start)

-- ---- what calls on headers leave

-- a dataspace that is there has room for a header
pub record HasHeader (part : Part) (ds : ℕ) : Type 0 where
  pub bytes : List ℕ
  pub there : get part.spaces ds ≡ Some bytes
  pub long : header ≤ length bytes

-- a word of a header starts there
pub record IsField (field : ℕ) : Type 0 where
  pub aligned : field % 8 ≡ 0
  pub within : field + 8 ≤ header

-- a link leads to a dataspace with a header, if it leads to one
abbrev pub LeadsToHeader : ℕ → Part → Type 0
LeadsToHeader link part = (b : ℕ) → link ≡ link_to b → HasHeader part b

-- headers have changed, of these blocks alone, and nothing else: neither the account, nor which dataspaces there are, nor
-- what they hold after a header
pub record HeadersChange (blocks : List ℕ) (old new : Part) : Type 0 where
  pub account : new.account ≡ old.account
  pub payloads : (ds : ℕ) → option_map (drop header) (get new.spaces ds) ≡ option_map (drop header) (get old.spaces ds)
  pub lengths : (ds : ℕ) → option_map length (get new.spaces ds) ≡ option_map length (get old.spaces ds)
  pub others : (ds : ℕ) → is_listed blocks ds ≡ false → get new.spaces ds ≡ get old.spaces ds
  pub count : len new.spaces ≡ len old.spaces

-- of the memory only this account's part has changed, and of that only the header to which a link leads
pub record ChangesLinked (account link : ℕ) (old new : Store) : Type 0 where
  pub becomes : PartBecomes account (part account new) old new
  pub headers : (blocks : List ℕ) → ((b : ℕ) → link ≡ link_to b → is_listed blocks b ≡ true) → HeadersChange blocks (part account old) (part account new)

-- a word of a header is stored
pub record IsStored (ds offset word : ℕ) (old new : Part) : Type 0 where
  pub reads : word_at new offset ds ≡ word
  pub elsewhere : (other : ℕ) → (other + 8 ≤ offset) ⊎ (offset + 8 ≤ other) → word_at new other ds ≡ word_at old other ds
  pub others : (other b : ℕ) → b ≢ ds → word_at new other b ≡ word_at old other b
  pub headers : HeadersChange (ds ∷ []) old new

-- the blocks' regions start as their headers said before
abbrev pub StartsStay : Part → Part → Type 0
StartsStay old new = (b : ℕ) → start_in new b ≡ start_in old b

-- the block to which a link leads, if there is one, is linked back by another link
pub record LinkedBack (link back : ℕ) (old new : Part) : Type 0 where
  pub starts : StartsStay old new
  pub nexts : (b : ℕ) → next_in new b ≡ next_in old b
  pub previouses : (b : ℕ) → previous_in new b ≡ cond (link_to b == link) back (previous_in old b)

-- the block to which a link leads, if there is one, is linked to the block after it by another link
pub record LinkedAhead (link ahead : ℕ) (old new : Part) : Type 0 where
  pub starts : StartsStay old new
  pub nexts : (b : ℕ) → next_in new b ≡ cond (link_to b == link) ahead (next_in old b)
  pub previouses : (b : ℕ) → previous_in new b ≡ previous_in old b

-- a block is put before the first one, and its region is at the address in its header
pub record PutFirst (first ds start : ℕ) (old new : Part) : Type 0 where
  pub starts : start_in new ds ≡ start
  pub leads : next_in new ds ≡ first
  pub begins : previous_in new ds ≡ 0
  pub others_start : (b : ℕ) → b ≢ ds → start_in new b ≡ start_in old b
  pub others_next : (b : ℕ) → b ≢ ds → next_in new b ≡ next_in old b
  pub others_previous : (b : ℕ) → b ≢ ds → previous_in new b ≡ cond (link_to b == first) (link_to ds) (previous_in old b)

-- the blocks before and after a block are linked to each other in its place
pub record TakenOut (ds : ℕ) (old new : Part) : Type 0 where
  pub others_start : StartsStay old new
  pub others_next : (b : ℕ) → b ≢ ds → next_in new b ≡ cond (link_to b == previous_in old ds) (next_in old ds) (next_in old b)
  pub others_previous : (b : ℕ) → b ≢ ds → previous_in new b ≡ cond (link_to b == next_in old ds) (previous_in old ds) (previous_in old b)
