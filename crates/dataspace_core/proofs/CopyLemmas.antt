-- Bytes of a dataspace put over a part of another, one piece after another.
use Rattle.std.proofs.Common.{◌≡◌, ◌≢◌, ℕ, ◌+◌, ◌-◌, ◌≤◌, ◌++◌, List, [], length, take, drop, sym, ap, ◌∙◌, unwrap_or, is_some, arith, take-add, drop-drop}
use Rattle.std.specs.FinMap.{get}
use Rattle.std.specs.Prelude.{Option, slice_range}
use Rattle.trade_base.proofs.BytesLemmas.{length-slice_range}
use Rattle.own_model.proofs.NatMapLemmas.{value_at, get-insert_other}
use Rattle.dataspace_core.specs.Store.{Store, Space, Exists, PartBecomes, part, part_with_bytes, space_at, with_bytes_at}
use Rattle.dataspace_core.proofs.PartLemmas.{becomes-with_bytes_at}
use Rattle.dataspace_core.proofs.PutLemmas.{put_nothing, put_there, put_long, put_more}

-- where no less is done than is asked, all is
pub done_all : (done count : ℕ) → count ≤ done → done ≤ count → done ≡ count
done_all done count no_more within = omega (arith, no_more, within)

-- no bytes from a place on
no_range : (bytes : List ℕ) (from : ℕ) → slice_range bytes from (from + 0) ≡ []
no_range bytes from = ap (λ n. take n (drop from bytes)) (let e : from + 0 - from ≡ 0 = omega arith in e)

-- so many bytes and those that follow
range_more : (bytes : List ℕ) (from done size : ℕ) → slice_range bytes from (from + done) ++ slice_range bytes (from + done) (from + done + size) ≡ slice_range bytes from (from + (done + size))
range_more bytes from done size =
    let a : from + done - from ≡ done = omega arith in
    let b : from + done + size - (from + done) ≡ size = omega arith in
    let c : from + (done + size) - from ≡ done + size = omega arith in
    ap (λ n. take n (drop from bytes) ++ slice_range bytes (from + done) (from + done + size)) a
    ∙ ap (λ n. take done (drop from bytes) ++ take n (drop (from + done) bytes)) b
    ∙ ap (λ l. take done (drop from bytes) ++ take size l) (sym (drop-drop done from bytes))
    ∙ sym (take-add done size (drop from bytes))
    ∙ ap (λ n. take n (drop from bytes)) (sym c)

module _ (store : Store) (from to : ℕ) (apart : from ≢ to) (source : Exists store from) (target : Exists store to) (a b count : ℕ)
    (there : a + count ≤ length (space_at store from).bytes) (room : b + count ≤ length (space_at store to).bytes) where
  abbrev bytes : List ℕ
  bytes = (space_at store from).bytes

  -- the memory once so many bytes are copied
  abbrev pub copied : ℕ → Store
  copied n = with_bytes_at store to b (slice_range bytes a (a + n))

  -- at first none are
  pub copied_none : store ≡ copied 0
  copied_none = sym (ap (with_bytes_at store to b) (no_range bytes a) ∙ put_nothing store to target b)

  -- its payer's part has them then
  pub copied_part : (n : ℕ) → PartBecomes (space_at store to).payer (part_with_bytes (part (space_at store to).payer store) to b (slice_range bytes a (a + n))) store (copied n)
  copied_part n = let space = value_at store.spaces to target in becomes-with_bytes_at store to space.0 space.1 b (slice_range bytes a (a + n))

  module _ (now : Store) (done size : ℕ) (is : now ≡ copied done) (more : done + size ≤ count) where
    -- the source is as it was
    source_is : get now.spaces from ≡ get store.spaces from
    source_is = ap (λ (s : Store). get s.spaces from) is ∙ get-insert_other store.spaces to _ from apart

    pub source_there : Exists now from
    source_there = ap is_some source_is ∙ source

    pub same_source : (space_at now from).bytes ≡ bytes
    same_source = ap (λ (o : Option Space). (unwrap_or o (record { payer = 0; bytes = [] })).bytes) source_is

    long : length (slice_range bytes a (a + done)) ≡ done
    long = length-slice_range bytes a done (omega (arith, more, there))

    fits : b + length (slice_range bytes a (a + done)) ≤ length (space_at store to).bytes
    fits = omega (arith, long, more, room)

    -- and the target is there, as long as it was
    pub target_there : Exists now to
    target_there = put_there store to target now b _ is fits

    pub target_long : length (space_at now to).bytes ≡ length (space_at store to).bytes
    target_long = put_long store to target now b _ is fits

    -- a piece that is read there
    abbrev piece : List ℕ
    piece = slice_range (space_at now from).bytes (a + done) (a + done + size)

    -- once it is put, more bytes are copied
    pub copied_more : with_bytes_at now to (b + done) piece ≡ copied (done + size)
    copied_more =
        let first = slice_range bytes a (a + done) in
        let next = slice_range bytes (a + done) (a + done + size) in
        ap (λ l. with_bytes_at now to (b + done) (slice_range l (a + done) (a + done + size))) same_source
        ∙ ap (λ n. with_bytes_at now to (b + n) next) (sym long)
        ∙ put_more store to target now b first is fits next
        ∙ ap (with_bytes_at store to b) (range_more bytes a done size)
