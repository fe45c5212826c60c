-- A heap's large blocks are given back, one after another.
use Rattle.std.proofs.Common.{rules, ◌≡◌, ℕ, ◌+◌, ◌-◌, ◌*◌, ◌≤◌, ◌==◌, Bool, List, length, get_or, false, Some, sym, ap, subst, ◌∙◌, unwrap_or, arith}
use Rattle.std.proofs.lemmas.Bool.Decides.{nat_tests}
use Rattle.std.specs.Prelude.{Option}
use Rattle.std.specs.Option.{option_and_then}
use Rattle.std.specs.FinMap.{get, remove, len}
use Rattle.own_model.specs.Account.{Account, credited, opened}
use Rattle.own_model.specs.OwnHeap.{OwnHeap}
use Rattle.own_model.specs.Region.{Region}
use Rattle.own_model.specs.Use.{heap_count, heap_size}
use Rattle.own_model.proofs.NatMapLemmas.{before_remove, get-picked}
use Rattle.own_model.proofs.Totals.{total-remove, len-remove_at}
use Rattle.region_map.specs.Regions.{Regions}
use Rattle.dataspace_core.specs.Store.{Store, part, account_in}
use Rattle.dataspace_core.specs.Share.{Share, KeepsShares}
use Rattle.dataspace_core.proofs.PartLaws.{account_of-part}
use Rattle.heap_core.specs.declared.heap.Heap.{Heap}
use Rattle.heap_core.specs.Calls.{GivesAll, GivesLarge, IsNoBlock, Keeps, KeepsElsewhere}
use Rattle.heap_core.specs.End.{EndsChunks, EndsLarge}
use Rattle.heap_core.specs.Heap.{HasNoBlocks, IsSound, heap_at, heap_in, large_regions, large_tag, payer_of, share_at, times_in}
use Rattle.sliced_heap.proofs.ShareLemmas.{large_kept}
use Rattle.dataspace_core.proofs.ShareLaws.{in_tags}
use Rattle.own_model.proofs.AccountLemmas.{credit_twice}
use Rattle.heap_core.proofs.EndChunkLemmas.{keeps_then, elsewhere_gone, elsewhere_then}
use Rattle.heap_core.proofs.SiteLemmas.{times_there}

-- none is given back yet
pub ends_large_none : (heap : Heap) (store : Store) (regions : Regions) → IsSound heap store regions → EndsLarge heap heap store store regions regions
ends_large_none heap store regions sound = search rules

module _ (heap next later : Heap) (a : ℕ) (old mid new : Store) (regions between after : Regions) (one : GivesLarge heap next a old mid regions between) (payer : payer_of next ≡ payer_of heap)
    (left : large_regions (share_at (payer_of heap) mid between) ≡ remove (large_regions (share_at (payer_of heap) old regions)) a) (same : payer_of later ≡ payer_of heap) (rest : GivesAll next later mid new between after) where
  abbrev account : ℕ
  account = payer_of heap

  abbrev S : Share
  S = share_at account old regions

  abbrev H : OwnHeap
  H = heap_in heap S

  -- the heap then
  abbrev N : OwnHeap
  N = heap_at next mid between

  -- its region keeps the number of a large block
  number_there : get regions.tags a ≡ Some large_tag
  number_there = search (rules, in_tags, large_kept)

  large_there : get H.large a ≡ Some (one.pages * 4096)
  unfolding heap_in
  large_there = get-picked (λ (r : Region). Some (r.pages * 4096)) (large_regions S) a ∙ ap (option_and_then (λ (r : Region). Some (r.pages * 4096))) one.region

  now : N ≡ record H { large = remove H.large a; payloads = remove H.payloads a }
  now = one.value

  size : heap_size N + one.pages * 4096 ≡ heap_size H
  size = let e = ap heap_size now in let t = total-remove (λ (bytes : ℕ). bytes) H.large a (one.pages * 4096) large_there in omega (arith, e, t)

  number : heap_count N + 1 ≡ heap_count H
  number = let e = ap heap_count now in let t = len-remove_at H.large a (one.pages * 4096) large_there in omega (arith, e, t)

  charged : (part account new).account ≡ Some (credited (account_in mid account) (heap_size N) (heap_count N))
  charged = subst (λ p. (part p new).account ≡ Some (credited (account_in mid p) (heap_size N) (heap_count N))) payer rest.charge

  account_mid : account_in mid account ≡ credited (account_in old account) (one.pages * 4096) 1
  account_mid = sym (account_of-part account mid) ∙ ap (λ (o : Option Account). unwrap_or o (opened 0 0)) one.charge

  -- what isn't a block's of the heap before isn't one of the heap then
  still_none : (k : ℕ) → IsNoBlock heap S k → IsNoBlock next (share_at account mid between) k
  still_none k none = search (rules, before_remove)

  pub gives_then : GivesAll heap later old new regions after
  gives_then = record {
    value = rest.value;
    none = subst (λ p. HasNoBlocks (share_at p new after)) payer rest.none;
    charge = charged
        ∙ ap (λ (x : Account). Some (credited x (heap_size N) (heap_count N))) account_mid
        ∙ ap Some (credit_twice (account_in old account) (one.pages * 4096) (heap_size N) 1 (heap_count N))
        ∙ (λ i. Some (credited (account_in old account) (size i) (number i)));
    spaces = λ k none.
        subst (λ p. (j : ℕ) → IsNoBlock next (share_at p mid between) j → get (part p new).spaces j ≡ get (part p mid).spaces j) payer rest.spaces k (still_none k none)
        ∙ one.others k (λ e. none.1 a _ one.region (sym e));
    count =
        let c = subst (λ p. len (part p new).spaces + heap_count N ≡ len (part p mid).spaces) payer rest.count in
        let n = one.count in
        let m = number in
        omega (arith, c, n, m);
    rest = rest.rest ∙ ap (λ (m : Regions). record m { heap = after.heap; tags = after.tags }) one.detached;
    kept = elsewhere_then regions between after (subst (KeepsElsewhere regions) (sym one.detached) (elsewhere_gone regions a large_tag number_there (omega arith))) rest.kept;
  }

-- one more is given back
pub ends_large_more : (heap now next : Heap) (a : ℕ) (old mid new : Store) (regions between after : Regions) → EndsLarge heap now old mid regions between → GivesLarge now next a mid new between after →
    Keeps now next mid new between after →
    large_regions (share_at (payer_of now) new after) ≡ remove (large_regions (share_at (payer_of now) mid between)) a → EndsLarge heap next old new regions after
ends_large_more heap now next a old mid new regions between after far one keeps left = record {
  sound = keeps.sound;
  payer = keeps.payer ∙ far.payer;
  others = keeps_then (payer_of heap) old mid new regions between after far.others (subst (λ p. KeepsShares p mid new between.heap between.tags after.heap after.tags) far.payer keeps.others);
  rest = λ later last all same rest. far.rest later last all same (gives_then now next later a mid new last between after all one keeps.payer left (same ∙ sym far.payer) rest);
}

-- a list that isn't empty has an element
pub some_left : (n m : ℕ) (b : Bool) → b ≡ (m == 0) → b ≡ false → n ≡ m → 1 ≤ n
some_left n m b test some is = let e = sym test ∙ some in grind (arith, nat_tests)

-- the last number of a list that has some stands there
pub listed_there : (xs ys : List ℕ) (n : ℕ) → ys ≡ xs → n ≡ length xs → 1 ≤ n → 1 ≤ times_in xs (get_or ys (n - 1) 0)
listed_there xs ys n same long some = search (rules, times_there)

-- both walks leave all others
pub ends_both : (heap now : Heap) (old mid new : Store) (regions between after : Regions) → EndsLarge heap now old mid regions between → EndsChunks now 0 mid new between after → KeepsShares (payer_of heap) old new regions.heap regions.tags after.heap after.tags
ends_both heap now old mid new regions between after far ends = search (rules, keeps_then)
