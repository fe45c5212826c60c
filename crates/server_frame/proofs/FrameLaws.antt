-- Laws for callers: a server that has just booted, and what calls beside a server leave of it.
use Rattle.std.proofs.Common.{◌≡◌, ◌≢◌, ℕ, ◌*◌, [], get_or, length, Some, is_some, sym, ap, subst, ◌∙◌}
use Rattle.std.proofs.lemmas.Option.{none-some}
use Rattle.std.specs.Prelude.{None}
use Rattle.std.specs.FinMap.{get, empty}
use Rattle.slab.specs.Slab.{Slab}
use Rattle.slab.specs.Slab as slab
use Rattle.own_model.specs.NatMap.{NatMap}
use Rattle.own_model.specs.Region.{Region}
use Rattle.own_model.proofs.NatMapLemmas.{get-empty}
use Rattle.region_map.specs.Regions.{Regions}
use Rattle.dataspace_core.specs.Store.{Store, Space, Part, part, space_at, ram_limits_in, PartBecomes}
use Rattle.dataspace_core.specs.Share.{Share, share_in}
use Rattle.dataspace_core.proofs.PartLaws.{part_of_payer, paid_in_part}
use Rattle.dataspace_core.proofs.PartLemmas.{space_at-some}
use Rattle.sliced_heap.specs.Heap.{MapsMemory}
use Rattle.sliced_heap.proofs.HeapLaws.{empty_map}
use Rattle.dataspace_core.proofs.WindowLaws.{shown_of_part}
use Rattle.server_frame.specs.Session.{holding}
use Rattle.server_frame.specs.Frame.{IsServer}
use Rattle.server_frame.specs.declared.server.Session.{Session}
use Rattle.server_frame.proofs.FrameLemmas.{Stays, holds_stays}

-- a server without sessions works on each memory of its map's size
pub server_at_first : {T : Type 0} (kept : T → ℕ → Share → Type 0) (sessions : Slab (Session T)) (store : Store) (regions : Regions) → sessions.slots ≡ [] → regions.heap ≡ empty →
    regions.pages * 4096 ≡ ram_limits_in store → regions.heap_most ≡ regions.pages → IsServer kept sessions store regions
server_at_first kept sessions store regions none empty_window pages most = record {
  maps = (empty_map store regions empty_window pages most).0;
  each = λ id s there. absurd (none-some s (sym (ap (λ slots. get_or slots id None) none) ∙ there));
  apart = λ a b s t there _ _. absurd (none-some s (sym (ap (λ slots. get_or slots a None) none) ∙ there));
  owned = λ start r there. absurd (none-some r (sym (ap (λ m. get m start) empty_window ∙ get-empty start) ∙ there));
}

-- a call for another account leaves what a session sees
pub stays_of_others : (account other : ℕ) (after : Part) (old new : Store) (regions : Regions) → PartBecomes account after old new → other ≢ account → Stays other old new regions regions
stays_of_others account other after old new regions becomes apart = record {
  own = becomes.others other apart;
  held = ap (λ p. holding (share_in p regions.heap regions.tags)) (becomes.others other apart);
  parent = ap (λ (m : NatMap ℕ). get m other) becomes.parents;
  leaf = λ leaf k is. leaf k (ap (λ (m : NatMap ℕ). get m k) (sym becomes.parents) ∙ is);
}

-- so a server stays as it is beside calls that leave what its sessions see, and all limits
module _ {T : Type 0} (kept : T → ℕ → Share → Type 0) (sessions : Slab (Session T)) (old new : Store) (regions : Regions) (server : IsServer kept sessions old regions) (limits : ram_limits_in new ≡ ram_limits_in old)
    (stays : (id : ℕ) (session : Session T) → slab.get sessions id ≡ Some session → Stays session.account.0 old new regions regions) where
  -- what a region shows is still there
  still_there : (start : ℕ) (r : Region) → get regions.heap start ≡ Some r → get (part (space_at old r.of).payer new).spaces r.of ≡ Some (space_at old r.of).bytes
  still_there start r there =
      let its = server.owned start r there in
      let shown = server.maps.shown start r there in
      let own = subst (λ k. part k new ≡ part k old) its.is (stays its.id its.session its.there).own in
      ap (λ (p : Part). get p.spaces r.of) own ∙ part_of_payer old r.of (ap is_some shown.there)

  maps_stay : MapsMemory new regions
  maps_stay = record {
    pages = server.maps.pages ∙ sym limits;
    most = server.maps.most;
    shown = λ start r there.
        let shown = server.maps.shown start r there in
        shown_of_part (space_at old r.of).payer new r (space_at old r.of).bytes (still_there start r there) shown.some
        (ap (λ (s : Space). length s.bytes) (space_at-some old r.of shown.space shown.there) ∙ shown.whole);
    once = server.maps.once;
  }

  pub server_stays : IsServer kept sessions new regions
  server_stays = record {
    maps = maps_stay;
    each = λ id s there. holds_stays old new regions regions s kept (server.each id s there) maps_stay (stays id s there);
    apart = server.apart;
    owned = λ start r there.
        let its = server.owned start r there in
        record { id = its.id; session = its.session; there = its.there; is = its.is ∙ sym (paid_in_part (space_at old r.of).payer r.of (space_at old r.of).bytes new (still_there start r there)).payer };
  }
