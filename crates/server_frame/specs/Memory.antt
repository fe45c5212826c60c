-- What a server names of the memory that its sessions are served from.
pub use Rattle.dataspace_core.specs.Room.{HasRoom}
pub use Rattle.dataspace_core.specs.Share.{Share}
pub use Rattle.dataspace_core.specs.Store.{IsChildIn, IsOpenIn, RaisesPart, Store, account_in, caps_limits_in, part, ram_limits_in, room_in, space_at}
pub use Rattle.region_map.specs.Regions.{Regions, fresh_regions}
pub use Rattle.sliced_heap.specs.Heap.{payer_of}
pub use Rattle.sliced_heap.specs.Sliced.{IsLinked}
pub use Rattle.sliced_heap.specs.declared.heap.SlicedHeap.{SlicedHeap}
