-- What a service whose sessions have nodes names of its frame, and of the memory below it.
pub use Rattle.dataspace_core.specs.Share.{Share}
pub use Rattle.dataspace_core.specs.Store.{Exists, IsOpenIn, Store, account_in, space_at}
pub use Rattle.region_map.specs.Regions.{Regions}
pub use Rattle.server_frame.proofs.HoldingLemmas.{heap_account}
pub use Rattle.server_frame.specs.Session.{HasBlocksAlone, holding_of, service_step}
pub use Rattle.server_frame.specs.SessionBuffer.{AllLendAside, IsEffect, LendsAside, bytes_lent, share_with}
pub use Rattle.server_frame.specs.declared.effect.Effect.{Effect}
pub use Rattle.server_frame.specs.declared.effect.Effect.TheVariants.{Nothing}
pub use Rattle.sliced_heap.proofs.EndLemmas.{keeps_then}
pub use Rattle.sliced_heap.specs.Chain.{has_no_repeat, is_listed}
pub use Rattle.sliced_heap.specs.Heap.{payer_of}
pub use Rattle.sliced_heap.specs.Sliced.{IsLinked, sliced_of}
