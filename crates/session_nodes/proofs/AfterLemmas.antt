-- What one call after another keeps, and what a call keeps after a search.
use Rattle.std.proofs.Common.{rules, ◌≡◌, ℕ, sym, ap, subst, ◌∙◌}
use Rattle.std.specs.FinMap.{get}
use Rattle.own_model.specs.NatMap.{NatMap}
use Rattle.own_model.specs.Region.{Region}
use Rattle.region_map.specs.Regions.{Regions}
use Rattle.dataspace_core.specs.Store.{Store}
use Rattle.heap_core.specs.declared.heap.Heap.{Heap}
use Rattle.sliced_heap.specs.declared.heap.SlicedHeap.{SlicedHeap}
use Rattle.sliced_heap.specs.Heap.{payer_of}
use Rattle.sliced_heap.proofs.EndLemmas.{keeps_then}
use Rattle.session_nodes.specs.SoundHeaps.{HasSoundHeaps, KeepsLent, KeepsSoundHeaps, KeepsSession}

-- ---- what other accounts have

-- what is lent stays through one thing after another
pub lent_both : (account : ℕ) (old mid new : Store) (regions middle after : Regions) → KeepsLent account old mid regions middle → KeepsLent account mid new middle after → KeepsLent account old new regions after
lent_both account old mid new regions middle after first next = record {
  stands = next.stands ∙ first.stands;
  bytes = λ s r lent. next.bytes s r (ap (λ (m : NatMap Region). get m s) first.stands ∙ lent) ∙ first.bytes s r lent;
}

-- so does a session
pub stays_both : (heap later : Heap) (sliced between now : SlicedHeap) (old mid new : Store) (regions middle after : Regions) →
    KeepsSoundHeaps sliced heap between old mid regions middle → KeepsSoundHeaps between later now mid new middle after → KeepsSoundHeaps sliced later now old new regions after
stays_both heap later sliced between now old mid new regions middle after first next = search (rules, keeps_then)

-- one thing after another
pub keeps_both : (heap later : Heap) (sliced between now : SlicedHeap) (old mid new : Store) (regions middle after : Regions) →
    KeepsSession sliced heap between old mid regions middle → KeepsSession between later now mid new middle after → KeepsSession sliced later now old new regions after
keeps_both heap later sliced between now old mid new regions middle after first next = record {
  stays = stays_both heap later sliced between now old mid new regions middle after first.stays next.stays;
  lent = lent_both (payer_of sliced) old mid new regions middle after first.lent (subst (λ x. KeepsLent x mid new middle after) first.stays.payer next.lent);
}

-- ---- after a search, which leaves the memory

pub keeps_after : {later : Heap} {sliced now : SlicedHeap} {store mid new : Store} {regions after : Regions} → mid ≡ store → KeepsSession sliced later now mid new regions after → KeepsSession sliced later now store new regions after
keeps_after {later} {sliced} {now} {store} {mid} {new} {regions} {after} same keeps = subst (λ m. KeepsSession sliced later now m new regions after) same keeps

pub furnished_after : {heap : Heap} {sliced : SlicedHeap} {store mid : Store} {regions : Regions} → mid ≡ store → HasSoundHeaps heap sliced store regions → HasSoundHeaps heap sliced mid regions
furnished_after {heap} {sliced} {store} {mid} {regions} same furnished = subst (λ m. HasSoundHeaps heap sliced m regions) (sym same) furnished
