-- The bytes that a write puts into a file: those of a slice, or a range of the session's buffer.
use Rattle.std.specs.Prelude.{ℕ, ◌+◌, ◌≤◌, List, length, slice_range}
use Rattle.region_map.specs.Regions.{Regions}
use Rattle.dataspace_core.specs.Store.{Store, space_at}
use Rattle.sliced_heap.specs.declared.heap.SlicedHeap.{SlicedHeap}
use Rattle.server_frame.specs.Session.{holding_of}
use Rattle.session_nodes.specs.SessionBuffer.{IsBufferAt}
use Rattle.session_nodes.specs.declared.session_buffer.SessionBuffer.{SessionBuffer}
use Rattle.session_nodes.specs.declared.write_source.WriteSource.{WriteSource}
use Rattle.session_nodes.specs.declared.write_source.WriteSource.TheVariants.{Bytes, Buffer}

abbrev pub bytes_from : WriteSource → Store → List ℕ
bytes_from (Bytes bytes) store = bytes.now
bytes_from (Buffer lent place count) store = slice_range (space_at store lent.space.0).bytes place (place + count)

-- a range of a buffer that is attached
pub record HasRange (lent : SessionBuffer) (place count : ℕ) (sliced : SlicedHeap) (store : Store) (regions : Regions) : Type 0 where
  pub stands : IsBufferAt lent (holding_of sliced store regions)
  pub within : place + count ≤ length (space_at store lent.space.0).bytes

-- they are there
abbrev pub HasSource : WriteSource → SlicedHeap → Store → Regions → Type 0
HasSource (Bytes bytes) sliced store regions = Unit {0}
HasSource (Buffer lent place count) sliced store regions = HasRange lent place count sliced store regions
