-- A heap's chunks are given back, the last one first.
use Rattle.std.proofs.lemmas.Bool.Decides.{nat_tests}
use Rattle.std.proofs.Common.{rules, ◌≡◌, ◌≢◌, ℕ, suc, ◌+◌, ◌-◌, ◌*◌, ◌<◌, ◌≤◌, true, false, cond, [], ◌∷◌, length, sum_by, refl, sym, ap, subst, ◌∙◌, ⊎_elim, true≢false, unwrap_or, arith, Some, is_some}
use Rattle.own_model.proofs.AccountLemmas.{credit_nothing, credit_twice}
use Rattle.std.proofs.lemmas.Bool.{cases_eq, cases_lt}
use Rattle.std.proofs.lemmas.Option.{none-some, same_Some}
use Rattle.std.specs.Prelude.{Option, None}
use Rattle.std.specs.FinMap.{get, remove, empty, len-empty}
use Rattle.own_model.specs.Account.{Account, credited, opened}
use Rattle.own_model.specs.Region.{Region}
use Rattle.own_model.proofs.NatMapLemmas.{before_remove, get-remove_same, get-remove_other, none_if, same, get-empty, get-picked_none}
use Rattle.avl_alloc.specs.Layout as avl
use Rattle.region_map.specs.Regions.{Regions, heap_detached}
use Rattle.dataspace_core.specs.Store.{Store, part, account_in, space_at, IsOpenIn, PartBecomes, part_without_space}
use Rattle.dataspace_core.specs.Share.{Share, IsWindowOf, KeepsShares}
use Rattle.dataspace_core.proofs.PartLaws.{account_of-part}
use Rattle.dataspace_core.proofs.WindowLaws.{own_account}
use Rattle.heap_core.specs.declared.heap.Heap.{Heap}
use Rattle.heap_core.specs.Heap.{HasNoBlocks, IsSound, chunk_at, heap_in, is_large_tag, keys_in, large_regions, large_tag, payer_of, share_at}
use Rattle.heap_core.specs.End.{EndsChunks, HasChunk, bytes_from}
use Rattle.heap_core.specs.Calls.{GivesAll, KeepsElsewhere}
use Rattle.heap_core.specs.declared.words.Chunk.{Chunk}
use Rattle.heap_core.specs.Words.{is_among}
use Rattle.sliced_heap.proofs.ShareLemmas.{get-large}
use Rattle.dataspace_core.proofs.ShareLaws.{in_tags}
use Rattle.heap_core.proofs.StandLemmas.{blocks, chunk_total, count_blocks}
use Rattle.own_model.specs.BestFit.{chunk_of}
use Rattle.own_model.specs.Heap as model
use Rattle.own_model.specs.Heap.{bytes_in}
use Rattle.own_model.specs.OwnHeap.{no_heap}
use Rattle.own_model.specs.Use.{heap_count, heap_size}
use Rattle.own_model.proofs.Totals.{total-empty}
use Rattle.std.proofs.lemmas.List.Sums.{sum_by-cons}
use Rattle.heap_core.proofs.ChunkLemmas.{key_is}
use Rattle.dataspace_core.proofs.GoneLaws.{gone_charge, gone_count, gone_open, gone_others, gone_paid, gone_share, gone_shares, gone_window, in_map}
use Rattle.heap_core.proofs.WordsLemmas.{among_there, length_keys}

-- others stay over two calls
pub keeps_then : (account : ℕ) (old mid new : Store) (regions between after : Regions) → KeepsShares account old mid regions.heap regions.tags between.heap between.tags → KeepsShares account mid new between.heap between.tags after.heap after.tags → KeepsShares account old new regions.heap regions.tags after.heap after.tags
keeps_then account old mid new regions between after first next = search rules

-- ---- regions with other numbers stay

pub elsewhere_same : (regions : Regions) → KeepsElsewhere regions regions
elsewhere_same regions = record { stays = λ s k tag high. (refl, refl); fewer = λ s k tag. tag }

pub elsewhere_then : (regions between after : Regions) → KeepsElsewhere regions between → KeepsElsewhere between after → KeepsElsewhere regions after
elsewhere_then regions between after first next = record {
  stays = λ s k tag high.
      let was = first.stays s k tag high in
      let now = next.stays s k (was.1 ∙ tag) high in
      (now.0 ∙ was.0, now.1 ∙ was.1);
  fewer = λ s k tag. first.fewer s k (next.fewer s k tag);
}

-- where one with a heap's number goes, those with other numbers stay
pub elsewhere_gone : (regions : Regions) (start number : ℕ) → get regions.tags start ≡ Some number → number ≤ large_tag → KeepsElsewhere regions (heap_detached regions start)
elsewhere_gone regions start number tag low = search (rules, same, same_Some, get-remove_other, before_remove)

-- no large block is left where the list of them is empty
module _ (heap : Heap) (store : Store) (regions : Regions) (sound : IsSound heap store regions) (empty : heap.large.items ≡ []) where
  pub none_large : (s : ℕ) → get (large_regions (share_at (payer_of heap) store regions)) s ≡ None
  none_large s = search (rules, none_if)

  no_number : (start : ℕ) (region : Region) → get (share_at (payer_of heap) store regions).heap start ≡ Some region → get (share_at (payer_of heap) store regions).tags start ≡ Some large_tag → ⊥
  no_number start region there tag =
      none-some region (sym (none_large start) ∙ get-large (share_at (payer_of heap) store regions) start
      ∙ ap (λ o. cond (is_large_tag o) (get (share_at (payer_of heap) store regions).heap start) None) tag ∙ there)

  -- all chunks are left
  pub ends_none : EndsChunks heap (length heap.chunks.items) store store regions regions
  ends_none = record {
    gone = 0;
    sum = omega arith;
    opens = sound.opens;
    window = sound.window;
    each = λ k there. let stands = sound.laid.chunks k there in record { pages = stands.pages; region = stands.region; tag = stands.tag; whole = stands.whole };
    all = λ start k region there tag low. ⊎_elim
        (λ (same : k ≡ large_tag). absurd (no_number start region there (tag ∙ ap Some same)))
        (λ (other : k ≢ large_tag). sound.laid.all start k region there tag (omega (arith, low, other)))
        (cases_eq k large_tag);
    charge = own_account (payer_of heap) store sound.opens ∙ ap Some (sym (credit_nothing (account_in store (payer_of heap))));
    spaces = λ k none. refl;
    count = omega arith;
    rest = refl;
    kept = elsewhere_same regions;
    others = record { shares = λ other apart. refl; root = refl; parents = refl; room = refl };
  }

-- ---- one more is given back

module _ (heap : Heap) (left : ℕ) (old mid new : Store) (regions between : Regions) (first : IsSound heap old regions) (ends : EndsChunks heap (left + 1) old mid regions between) where
  abbrev account : ℕ
  account = payer_of heap

  abbrev S : Share
  S = share_at account mid between

  has : HasChunk S heap left
  has = ends.each left (omega arith)

  abbrev start : ℕ
  start = (chunk_at heap left).start

  abbrev ds : ℕ
  ds = (chunk_at heap left).ds.0

  abbrev after : Regions
  after = heap_detached between start

  chunk_region : is_some (get between.heap start) ≡ true
  chunk_region = ap is_some (in_map account start ds has.pages mid new between.pages between.heap_most between.heap between.tags ends.opens ends.window has.region)

  -- its number is one of the heap's
  chunk_kept : KeepsElsewhere between after
  chunk_kept = elsewhere_gone between start left (in_tags (part account mid) between.heap between.tags start left has.tag) (omega (arith, ends.sum, first.laid.few))

  chunk_exists : is_some (get mid.spaces ds) ≡ true
  chunk_exists = (gone_paid account start ds has.pages mid new between.pages between.heap_most between.heap between.tags ends.opens ends.window has.region).exists

  module _ (freed : PartBecomes (space_at mid ds).payer (part_without_space (part (space_at mid ds).payer mid) ds) mid new) where
    now : share_at account new after ≡ record { part = part account new; heap = remove S.heap start; tags = remove S.tags start }
    now = gone_share account start ds has.pages mid new between.pages between.heap_most between.heap between.tags ends.opens ends.window has.region freed

    apart : (k : ℕ) → k < left → (chunk_at heap k).start ≢ start
    apart k low same = grind (arith, nat_tests, same_Some, same, has)

    each : (k : ℕ) → k < left → HasChunk (record { part = part account new; heap = remove S.heap start; tags = remove S.tags start }) heap k
    each k low =
        let was = ends.each k (omega (arith, low)) in
        record {
          pages = was.pages;
          region = get-remove_other S.heap start _ (apart k low) ∙ was.region;
          tag = get-remove_other S.tags start _ (apart k low) ∙ was.tag;
          whole = was.whole;
        }

    all : (s k : ℕ) (region : Region) → get (remove S.heap start) s ≡ Some region → get (remove S.tags start) s ≡ Some k → k ≤ large_tag → (k < left) × ((chunk_at heap k).start ≡ s)
    all s k region h tag low =
        let was = ends.all s k region (before_remove S.heap start s region h) (before_remove S.tags start s k tag) low in
        ⊎_elim
        (λ (same : k ≡ left). absurd (none-some region (sym (get-remove_same S.heap start s (sym was.1 ∙ ap (λ j. (chunk_at heap j).start) same)) ∙ h)))
        (λ (other : k ≢ left). ((let l = was.0 in omega (arith, l, other)), was.1))
        (cases_eq k left)

    -- its dataspace is a chunk's
    ds_apart : (k : ℕ) → is_among (keys_in heap) k ≡ false → k ≢ ds
    ds_apart k none e =
        let sum = ends.sum in
        let keys = length_keys heap.chunks.items in
        let there : left < length (keys_in heap) = omega (arith, sum, keys) in
        true≢false (sym (among_there (keys_in heap) left there) ∙ ap (is_among (keys_in heap)) (key_is heap old regions first left there ∙ sym e) ∙ none)

    account_mid : account_in mid account ≡ credited (account_in old account) (bytes_from heap (left + 1) ends.gone) ends.gone
    account_mid = sym (account_of-part account mid) ∙ ap (λ (o : Option Account). unwrap_or o (opened 0 0)) ends.charge

    charge : (part account new).account ≡ Some (credited (account_in old account) (bytes_from heap left (suc ends.gone)) (suc ends.gone))
    charge =
        gone_charge account start ds has.pages mid new between.pages between.heap_most between.heap between.tags ends.opens ends.window has.region freed
        ∙ ap (λ n. Some (credited (account_in mid account) n 1)) (sym has.whole)
        ∙ ap (λ (a : Account). Some (credited a (avl.bytes_of heap.fit left) 1)) account_mid
        ∙ ap Some (credit_twice (account_in old account) (bytes_from heap (left + 1) ends.gone) (avl.bytes_of heap.fit left) ends.gone 1)
        ∙ ap (λ n. Some (credited (account_in old account) (bytes_from heap left (suc ends.gone)) n)) (let e : 1 + ends.gone ≡ suc ends.gone = omega arith in e)

    ends_more : EndsChunks heap left old new regions after
    ends_more = record {
      gone = suc ends.gone;
      sum = let s = ends.sum in omega (arith, s);
      opens = gone_open account start ds has.pages mid new between.pages between.heap_most between.heap between.tags ends.opens ends.window has.region freed;
      window = gone_window account start ds has.pages mid new between.pages between.heap_most between.heap between.tags ends.opens ends.window has.region freed;
      each = λ k low. subst (λ (s : Share). HasChunk s heap k) (sym now) (each k low);
      all = subst (λ (s : Share). (q k : ℕ) (region : Region) → get s.heap q ≡ Some region → get s.tags q ≡ Some k → k ≤ large_tag → (k < left) × ((chunk_at heap k).start ≡ q)) (sym now) all;
      charge = charge;
      spaces = λ k none.
          gone_others account start ds has.pages mid new between.pages between.heap_most between.heap between.tags ends.opens ends.window has.region freed k (ds_apart k none)
          ∙ ends.spaces k none;
      count =
          let n = gone_count account start ds has.pages mid new between.pages between.heap_most between.heap between.tags ends.opens ends.window has.region freed in
          let m = ends.count in omega (arith, n, m);
      rest = ap (λ (m : Regions). record m { heap = after.heap; tags = after.tags }) ends.rest;
      kept = elsewhere_then regions between after ends.kept chunk_kept;
      others = keeps_then account old mid new regions between after ends.others (gone_shares account start ds has.pages mid new between.pages between.heap_most between.heap between.tags ends.opens ends.window has.region freed);
    }

-- ---- a round of the walk

module _ (heap : Heap) (left : ℕ) (old mid new : Store) (regions between : Regions) (first : IsSound heap old regions) (some : 0 < left) (ends : EndsChunks heap left old mid regions between) (x : Chunk) (is : x ≡ chunk_at heap (left - 1)) where
  still : EndsChunks heap (left - 1 + 1) old mid regions between
  still = let e : left ≡ left - 1 + 1 = omega (arith, some) in subst (λ n. EndsChunks heap n old mid regions between) e ends

  pub round_region : is_some (get between.heap x.start) ≡ true
  round_region = ap (λ (c : Chunk). is_some (get between.heap c.start)) is ∙ chunk_region heap (left - 1) old mid new regions between first still

  pub round_exists : is_some (get mid.spaces x.ds.0) ≡ true
  round_exists = ap (λ (c : Chunk). is_some (get mid.spaces c.ds.0)) is ∙ chunk_exists heap (left - 1) old mid new regions between first still

  pub round : (after : Regions) → after ≡ heap_detached between x.start → PartBecomes (space_at mid x.ds.0).payer (part_without_space (part (space_at mid x.ds.0).payer mid) x.ds.0) mid new → EndsChunks heap (left - 1) old new regions after
  round after gone freed = search (rules, ends_more, still)

-- ---- all are given back

sum_bytes : (heap : Heap) (chunks : model.Heap) (number : ℕ) → ((k : ℕ) → k < length chunks → bytes_in (chunk_of chunks k) ≡ avl.bytes_of heap.fit (number + k)) → sum_by bytes_in chunks ≡ bytes_from heap number (length chunks)
sum_bytes heap [] number each = refl
sum_bytes heap (x ∷ xs) number each =
    let here = each 0 (omega arith) ∙ ap (avl.bytes_of heap.fit) (let e : number + 0 ≡ number = omega arith in e) in
    let rest = sum_bytes heap xs (number + 1) (λ k there. each (suc k) (omega (arith, there)) ∙ ap (avl.bytes_of heap.fit) (let e : number + suc k ≡ number + 1 + k = omega arith in e)) in
    sum_by-cons bytes_in x xs ∙ (λ i. here i + rest i)

module _ (heap later : Heap) (old new : Store) (regions after : Regions) (sound : IsSound heap old regions) (none : heap.large.items ≡ []) (ends : EndsChunks heap 0 old new regions after) (payer : payer_of later ≡ payer_of heap) where
  abbrev O : Share
  O = share_at (payer_of heap) old regions

  no_blocks_left : HasNoBlocks (share_at (payer_of heap) new after)
  no_blocks_left start k region there tag = ⊎_elim
      (λ (high : large_tag < k). high)
      (λ (low : k ≤ large_tag). absurd (let l = (ends.all start k region there tag low).0 in omega (arith, l)))
      (cases_lt large_tag k)

  large_empty : (heap_in heap O).large ≡ empty
  unfolding heap_in
  large_empty = same _ _ (λ q. get-picked_none (λ (r : Region). Some (r.pages * 4096)) (large_regions O) q (none_large heap old regions sound none q) ∙ sym (get-empty q))

  gone_is : ends.gone ≡ length heap.chunks.items
  gone_is = let s = ends.sum in omega (arith, s)

  count_is : heap_count (heap_in heap O) ≡ ends.gone
  unfolding heap_in
  count_is = grind (arith, nat_tests, count_blocks, large_empty, len-empty, gone_is)

  size_is : heap_size (heap_in heap O) ≡ bytes_from heap 0 ends.gone
  unfolding heap_in
  size_is = grind (arith, nat_tests, count_blocks, large_empty, total-empty, sum_bytes, blocks, chunk_total, gone_is)

  pub ends_all : ((share : Share) → HasNoBlocks share → heap_in later share ≡ no_heap) → GivesAll heap later old new regions after
  ends_all value = grind (arith, nat_tests, no_blocks_left, charge, size_is, count_is)

  pub end_sound : ((store : Store) (rs : Regions) → IsOpenIn store (payer_of heap) → IsWindowOf store rs.pages rs.heap_most rs.heap → HasNoBlocks (share_at (payer_of heap) store rs) → IsSound later store rs) → IsSound later new after
  end_sound make = make new after ends.opens ends.window no_blocks_left
