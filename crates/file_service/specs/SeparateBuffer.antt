-- The buffer that the file service lends is separate: other bytes in it leave a session's files as they are.
use Rattle.std.proofs.Common.{◌≡◌, ℕ, List, Some, is_some, refl, sym, ap, subst}
use Rattle.std.proofs.lemmas.Option.{none-some, same_Some}
use Rattle.std.specs.Prelude.{Option, None}
use Rattle.own_model.specs.NatMap.{NatMap}
use Rattle.own_model.specs.OwnHeap.{OwnHeap}
use Rattle.own_model.specs.Session.{Labelled}
use Rattle.own_model.specs.Services.ServiceState.{Filing}
use Rattle.session_nodes.specs.Frame.{Share, sliced_of, LendsAside, AllLendAside, share_with}
use Rattle.session_nodes.specs.NodeList.{heap_in}
use Rattle.session_nodes.specs.Index.{AreListed}
use Rattle.session_nodes.specs.SeparateBuffer as apart
use Rattle.session_nodes.specs.SessionBuffer.{IsBufferAt, KeepsBuffer}
pub use Rattle.session_nodes.specs.SessionBuffer.{buffer_key}
use Rattle.session_nodes.specs.declared.session_buffer.SessionBuffer.{SessionBuffer}
use Rattle.file_service.specs.Files.{files_of}
use Rattle.file_service.specs.Session.{IsSession, value_of}
use Rattle.file_service.specs.declared.session.FileSession.{FileSession}

module _ (session : FileSession) (lent : SessionBuffer) (account : ℕ) (share : Share) (is : IsSession session account share) (stands : IsBufferAt lent share) (same : session.buffer ≡ Some lent) where
  -- with other bytes in it
  module _ (bytes : List ℕ) where
    abbrev T : Share
    T = share_with lent.space.0 bytes share

    nodes_same : heap_in session.nodes.heaps.nodes T ≡ heap_in session.nodes.heaps.nodes share
    nodes_same = apart.nodes_same session.nodes.heaps lent account share is.heaps stands bytes

    contents_same : sliced_of T ≡ sliced_of share
    contents_same = apart.contents_same session.nodes.heaps lent account share is.heaps stands bytes

    value_still : value_of session T ≡ value_of session share
    value_still = λ i. value_by (nodes_same i) (contents_same i) where
      value_by : OwnHeap → NatMap (List ℕ) → Labelled
      value_by nodes contents = record { label = session.label.items; state = Filing (files_of session.nodes.first nodes contents) }

    kept_still : IsSession session account T
    kept_still = record {
      heaps = apart.kept_still session.nodes.heaps lent account share is.heaps stands bytes;
      files = subst (λ (h : OwnHeap). AreListed session.nodes.first session.nodes.last session.nodes.root session.nodes.recent h (sliced_of T)) (sym nodes_same) (subst (λ m. AreListed session.nodes.first session.nodes.last session.nodes.root session.nodes.recent (heap_in session.nodes.heaps.nodes share) m) (sym contents_same) is.files);
      buffer = subst (λ b. KeepsBuffer b T) (sym same) (apart.buffer_still session.nodes.heaps lent account share is.heaps stands bytes);
    }

  aside : LendsAside IsSession value_of session account share lent.space.0
  aside = record {
    paid = ap is_some (apart.there session.nodes.heaps lent account share is.heaps stands).1;
    no_block = apart.no_block session.nodes.heaps lent account share is.heaps stands;
    kept_still = λ bytes long. kept_still bytes;
    value_same = λ bytes long. value_still bytes;
  }

by_buffer : (session : FileSession) (account : ℕ) (share : Share) (ds : ℕ) (b : Option SessionBuffer) → session.buffer ≡ b → IsSession session account share → buffer_key b ≡ Some ds → LendsAside IsSession value_of session account share ds
by_buffer session account share ds None same is lends = absurd (none-some ds lends)
by_buffer session account share ds (Some lent) same is lends =
    subst (LendsAside IsSession value_of session account share) (same_Some lent.space.0 ds lends) (aside session lent account share is (subst (λ b. KeepsBuffer b share) same is.buffer) same)

-- all that the file service lends does
pub lends_aside : AllLendAside IsSession value_of (λ (session : FileSession). buffer_key session.buffer)
lends_aside session account share ds is lends = by_buffer session account share ds session.buffer refl is lends
