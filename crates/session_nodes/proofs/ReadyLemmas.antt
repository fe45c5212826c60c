-- A session's heaps and its buffer are sound by what is true of them between requests, where the map lies apart; and the other way round.
use Rattle.std.proofs.Common.{refl, sym, subst}
use Rattle.std.specs.Prelude.{Option}
use Rattle.region_map.specs.Regions.{Regions, AreSound}
use Rattle.dataspace_core.specs.Store.{Store, IsOpenIn}
use Rattle.heap_core.specs.Heap.{IsLaid}
use Rattle.sliced_heap.specs.Heap.{payer_of, share_at}
use Rattle.sliced_heap.proofs.BesideLemmas.{map_of}
use Rattle.server_frame.specs.Session.{IsSessionAccount, holding_of}
use Rattle.server_frame.proofs.HoldingLemmas.{heap_linked, session_heap}
use Rattle.session_nodes.specs.SessionBuffer.{HasBuffer, KeepsBuffer}
use Rattle.session_nodes.specs.SessionHeaps.{AreKept, AreSoundHeaps}
use Rattle.session_nodes.specs.declared.session_buffer.SessionBuffer.{SessionBuffer}
use Rattle.session_nodes.specs.declared.session_heaps.SessionHeaps.{SessionHeaps}
use Rattle.session_nodes.proofs.BeginLemmas.{session_share}
use Rattle.session_nodes.proofs.FurnishedLemmas.{laid_back}
use Rattle.session_nodes.proofs.SourceLemmas.{has_buffer}

module _ (heaps : SessionHeaps) (store : Store) (regions : Regions) where
  module _ (account : IsSessionAccount (payer_of heaps.contents) store regions) (kept : AreKept heaps (payer_of heaps.contents) (holding_of heaps.contents store regions)) where
    pub are_sound : AreSound regions → AreSoundHeaps heaps store regions
    are_sound apart =
        let heap = session_heap heaps.contents store regions account kept.linked in
        let nodes = kept.nodes (session_share heaps.contents store regions heap) in
        let same = sym kept.same_payer in
        record {
          session = heap;
          payer = kept.same_payer;
          sound = record {
            opens = subst (IsOpenIn store) same account.opens;
            window = map_of account.maps apart.pages apart.heap;
            laid = subst (λ x. IsLaid heaps.nodes (share_at x store regions)) same (laid_back heaps.nodes (share_at (payer_of heaps.contents) store regions) nodes.laid);
          };
          nodes = nodes;
        }

    pub is_lent : (b : Option SessionBuffer) → KeepsBuffer b (holding_of heaps.contents store regions) → HasBuffer b (holding_of heaps.contents store regions)
    is_lent b keeps = has_buffer b heaps.contents store regions (session_heap heaps.contents store regions account kept.linked) keeps

  pub are_kept : AreSoundHeaps heaps store regions → AreKept heaps (payer_of heaps.contents) (holding_of heaps.contents store regions)
  are_kept sound = record {
    payer = refl;
    same_payer = sound.payer;
    linked = heap_linked heaps.contents store regions sound.session;
    nodes = λ _. sound.nodes;
  }
