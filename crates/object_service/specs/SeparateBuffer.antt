-- The buffer that a declared server lends is separate: other bytes in it leave a session's objects as they are.
use Rattle.std.proofs.Common.{◌≡◌, ℕ, List, Some, is_some, refl, sym, ap, subst}
use Rattle.std.proofs.lemmas.Option.{none-some, same_Some}
use Rattle.std.specs.Prelude.{Option, None}
use Rattle.own_model.specs.ObjectKinds.{ObjectKind}
use Rattle.own_model.specs.OwnHeap.{OwnHeap}
use Rattle.own_model.specs.Session.{Labelled}
use Rattle.own_model.specs.Services.ServiceState.{Holding}
use Rattle.session_nodes.specs.Frame.{Share, sliced_of, LendsAside, AllLendAside, share_with}
use Rattle.session_nodes.specs.NodeList.{heap_in}
use Rattle.session_nodes.specs.Index.{AreListed}
use Rattle.session_nodes.specs.SeparateBuffer as apart
use Rattle.session_nodes.specs.SessionBuffer.{IsBufferAt, KeepsBuffer, buffer_key}
use Rattle.session_nodes.specs.declared.session_buffer.SessionBuffer.{SessionBuffer}
use Rattle.object_service.specs.Counts.{AreCounted}
use Rattle.object_service.specs.Objects.{objects_of, numbers_of, AreObjectNodes}
use Rattle.object_service.specs.Session.{IsSession, value_of}
use Rattle.object_service.specs.declared.session.ObjectSession.{ObjectSession}

module _ (kinds : List ObjectKind) (session : ObjectSession) (lent : SessionBuffer) (account : ℕ) (share : Share) (is : IsSession session account share) (stands : IsBufferAt lent share) (same : session.buffer ≡ Some lent) where
  -- with other bytes in it
  module _ (bytes : List ℕ) where
    abbrev T : Share
    T = share_with lent.space.0 bytes share

    nodes_same : heap_in session.nodes.heaps.nodes T ≡ heap_in session.nodes.heaps.nodes share
    nodes_same = apart.nodes_same session.nodes.heaps lent account share is.heaps stands bytes

    contents_same : sliced_of T ≡ sliced_of share
    contents_same = apart.contents_same session.nodes.heaps lent account share is.heaps stands bytes

    value_still : value_of kinds session T ≡ value_of kinds session share
    value_still = λ i. value_by (nodes_same i) where
      value_by : OwnHeap → Labelled
      value_by nodes = record { label = session.label.items; state = Holding kinds (objects_of kinds session.nodes.first nodes) }

    kept_still : IsSession session account T
    kept_still = record {
      heaps = apart.kept_still session.nodes.heaps lent account share is.heaps stands bytes;
      nodes = subst (λ (h : OwnHeap). AreListed session.nodes.first session.nodes.last session.nodes.root session.nodes.recent h (sliced_of T)) (sym nodes_same) (subst (λ m. AreListed session.nodes.first session.nodes.last session.nodes.root session.nodes.recent (heap_in session.nodes.heaps.nodes share) m) (sym contents_same) is.nodes);
      objects = subst (AreObjectNodes session.nodes.first) (sym nodes_same) is.objects;
      counted = subst (λ (h : OwnHeap). AreCounted session.counts (numbers_of session.nodes.first h)) (sym nodes_same) is.counted;
      buffer = subst (λ b. KeepsBuffer b T) (sym same) (apart.buffer_still session.nodes.heaps lent account share is.heaps stands bytes);
    }

  aside : LendsAside IsSession (value_of kinds) session account share lent.space.0
  aside = record {
    paid = ap is_some (apart.there session.nodes.heaps lent account share is.heaps stands).1;
    no_block = apart.no_block session.nodes.heaps lent account share is.heaps stands;
    kept_still = λ bytes long. kept_still bytes;
    value_same = λ bytes long. value_still bytes;
  }

by_buffer : (kinds : List ObjectKind) (session : ObjectSession) (account : ℕ) (share : Share) (ds : ℕ) (b : Option SessionBuffer) → session.buffer ≡ b → IsSession session account share → buffer_key b ≡ Some ds →
    LendsAside IsSession (value_of kinds) session account share ds
by_buffer kinds session account share ds None same is lends = absurd (none-some ds lends)
by_buffer kinds session account share ds (Some lent) same is lends =
    subst (LendsAside IsSession (value_of kinds) session account share) (same_Some lent.space.0 ds lends) (aside kinds session lent account share is (subst (λ b. KeepsBuffer b share) same is.buffer) same)

-- all that a declared server lends does
pub lends_aside : (kinds : List ObjectKind) → AllLendAside IsSession (value_of kinds) (λ (session : ObjectSession). buffer_key session.buffer)
lends_aside kinds session account share ds is lends = by_buffer kinds session account share ds session.buffer refl is lends
