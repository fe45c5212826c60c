-- What is true of a session's heaps, and what its account has.
use Rattle.std.specs.Prelude.{◌≡◌, ℕ}
use Rattle.region_map.specs.Regions.{Regions}
use Rattle.dataspace_core.specs.Share.{Share}
use Rattle.dataspace_core.specs.Store.{Store}
use Rattle.heap_core.specs.Heap.{payer_of as heap_payer}
use Rattle.sliced_heap.specs.Heap.{payer_of}
use Rattle.sliced_heap.specs.Sliced.{IsLinked}
use Rattle.session_nodes.specs.SoundHeaps.{Stock, stock, KeepsNodes, HasSoundHeaps, KeepsSoundHeaps, KeepsSession}
use Rattle.session_nodes.specs.declared.session_heaps.SessionHeaps.{SessionHeaps}

-- between requests both heaps are the account's, and what it has is theirs or the buffer
pub record AreKept (heaps : SessionHeaps) (account : ℕ) (share : Share) : Type 0 where
  pub payer : payer_of heaps.contents ≡ account
  pub same_payer : heap_payer heaps.nodes ≡ account
  pub linked : IsLinked share heaps.contents.first
  pub nodes : KeepsNodes heaps.nodes share

-- the contents of both heaps
abbrev pub stock_of : SessionHeaps → Store → Regions → Stock
stock_of heaps store regions = stock heaps.nodes heaps.contents store regions

-- both heaps are sound while a request is served
abbrev pub AreSoundHeaps : SessionHeaps → Store → Regions → Type 0
AreSoundHeaps heaps store regions = HasSoundHeaps heaps.nodes heaps.contents store regions

-- both heaps are still sound afterwards
abbrev pub StaySoundHeaps : SessionHeaps → SessionHeaps → Store → Store → Regions → Regions → Type 0
StaySoundHeaps heaps later old new regions after = KeepsSoundHeaps heaps.contents later.nodes later.contents old new regions after

-- calls of either heap also keep what is neither's
abbrev pub KeepsHeaps : SessionHeaps → SessionHeaps → Store → Store → Regions → Regions → Type 0
KeepsHeaps heaps later old new regions after = KeepsSession heaps.contents later.nodes later.contents old new regions after
