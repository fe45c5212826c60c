-- Which block an address lies in, by the heap region that holds it.
use Rattle.std.proofs.Common.{rules, ◌≡◌, ◌≢◌, ◌+◌, ◌-◌, ◌*◌, ◌<◌, ◌≤◌, ◌==◌, ℕ, true, false, cond, zero, suc, List, [], ◌∷◌, get_or, length, Some, is_some, refl, sym, ap, ◌∙◌, ⊎_elim, ◌⊎◌, inl, inr, true≢false, arith}
use Rattle.std.proofs.lemmas.Bool.{cases_lt}
use Rattle.std.proofs.lemmas.Bool.Decides.{nat_tests}
use Rattle.std.proofs.lemmas.Option.{none-some, same_Some}
use Rattle.std.specs.Prelude.{Option, None}
use Rattle.std.specs.Option.{option_map, option_and_then}
use Rattle.std.proofs.lemmas.List.Sums.{sum_by-cons}
use Rattle.std.specs.FinMap.{get}
use Rattle.own_model.specs.Region.{Region, holds}
use Rattle.own_model.proofs.NatMapLemmas.{get-picked, value_at}
use Rattle.region_map.specs.Regions.{Regions, AreSound, heap_found}
use Rattle.region_map.proofs.FoundLaws.{found_parts, found_none, held_once}
use Rattle.dataspace_core.specs.Store.{Store, part, Exists, space_at}
use Rattle.dataspace_core.specs.Share.{Share, share_in, shown}
use Rattle.dataspace_core.proofs.PartLaws.{part_of_payer, paid_in_part}
use Rattle.dataspace_core.proofs.ShareLaws.{get-tags_of, in_share}
use Rattle.heap_core.specs.declared.heap.Heap.{Heap}
use Rattle.heap_core.specs.Heap.{IsSound, chunk_at, large_tag, is_large_tag, payer_of, share_at, times_in, large_regions}
use Rattle.heap_core.specs.Lookup.{LiesInChunk, LiesInLarge, LiesOutside}
use Rattle.sliced_heap.proofs.ShareLemmas.{large_kept, get-large, large_there}

-- a region that doesn't hold an address ends before it, or starts behind it
not_held : (address s : ℕ) (r : Region) → holds address 1 (s, r) ≡ false → (address < s) ⊎ (s + r.pages * 4096 ≤ address)
not_held address s r h = search (rules, true≢false, cases_lt)

held_parts : (address s : ℕ) (r : Region) → holds address 1 (s, r) ≡ true → (s ≤ address) × (address < s + r.pages * 4096)
held_parts address s r h = (grind (arith, nat_tests), grind (arith, nat_tests))

-- what a test of two keys tells
pub payer_is : (a b : ℕ) → (a == b) ≡ true → a ≡ b
payer_is a b h = grind (arith, nat_tests)

pub payer_other : (a b : ℕ) → (a == b) ≡ false → a ≢ b
payer_other a b h = λ e. absurd (grind (arith, nat_tests))

-- a number that a share has is the map's
number_of : (b : ℕ → Option Region) (s k : ℕ) (o : Option ℕ) → cond (is_some (b s)) o None ≡ Some k → o ≡ Some k
number_of b s k o h = elim (is_some (b s)) as (λ t. cond t o None ≡ Some k → o ≡ Some k) [ true ↦ λ e. e | false ↦ λ e. absurd (none-some k e) ] h

module _ (heap : Heap) (store : Store) (regions : Regions) (sound : IsSound heap store regions) (map : AreSound regions) (address : ℕ) where
  abbrev account : ℕ
  account = payer_of heap

  abbrev S : Share
  S = share_at account store regions

  in_map : (s : ℕ) (r : Region) → get S.heap s ≡ Some r → (get regions.heap s ≡ Some r) × (is_some (get (part account store).spaces r.of) ≡ true)
  in_map s r h = in_share (part account store) regions.heap regions.tags s r h

  number_in_map : (s k : ℕ) → get S.tags s ≡ Some k → get regions.tags s ≡ Some k
  unfolding share_in
  number_in_map s k h = number_of (get S.heap) s k (get regions.tags s) (sym (get-tags_of S.heap regions.tags s) ∙ h)

  -- a region of the map whose dataspace the account has is one of the share, with its number
  region_shown : (s : ℕ) (r : Region) → get regions.heap s ≡ Some r → is_some (get (part account store).spaces r.of) ≡ true → get S.heap s ≡ Some r
  unfolding share_in
  region_shown s r there paid = get-picked (shown (part account store).spaces) regions.heap s ∙ ap (option_and_then (shown (part account store).spaces)) there ∙ ap (λ b. cond b (Some r) None) paid

  number_shown : (s : ℕ) (r : Region) → get S.heap s ≡ Some r → get S.tags s ≡ get regions.tags s
  unfolding share_in
  number_shown s r there = get-tags_of S.heap regions.tags s ∙ ap (λ (o : Option Region). cond (is_some o) (get regions.tags s) None) there

  -- where no region with a block's number holds it, it lies outside
  outside_if : ((s k : ℕ) (r : Region) → get S.heap s ≡ Some r → get S.tags s ≡ Some k → k ≤ large_tag → holds address 1 (s, r) ≡ false) → LiesOutside heap S address
  outside_if none = record {
    chunks = λ k there.
        let stands = sound.laid.chunks k there in
        let few = sound.laid.few in
        let whole = stands.whole in
        ⊎_elim
        (λ (low : address < (chunk_at heap k).start). inl low)
        (λ (past : (chunk_at heap k).start + stands.pages * 4096 ≤ address). inr (omega (arith, past, whole)))
        (not_held address (chunk_at heap k).start (record { of = (chunk_at heap k).ds.0; pages = stands.pages }) (none (chunk_at heap k).start k _ stands.region stands.tag (omega (arith, there, few))));
    large = λ s r h.
        let number = large_kept S s r h in
        not_held address s r (none s large_tag r (large_there S s r h) number (omega arith));
  }

  -- where the map finds no region
  pub none_found : heap_found regions address ≡ None → LiesOutside heap S address
  none_found none = outside_if (λ s k r h tag low. found_none regions address map none s r (in_map s r h).0)

  module _ (start of tag : ℕ) (found : heap_found regions address ≡ Some (start, of, tag)) where
    -- the region that holds it is of a dataspace
    pub found_exists : Exists store of
    found_exists =
        let parts = found_parts regions address start of tag found in
        ap (λ k. is_some (get store.spaces k)) (sym parts.2) ∙ ap is_some (sound.window.shown_whole start parts.0 parts.1).there

    pub found_low : start ≤ address
    found_low = let parts = found_parts regions address start of tag found in (held_parts address start parts.0 parts.4).0

    -- it is the only one that holds it
    pub only : (s : ℕ) (r : Region) → get regions.heap s ≡ Some r → holds address 1 (s, r) ≡ true → (s ≡ start) × (r.of ≡ of)
    only s r there h = grind (arith, nat_tests, found_parts, held_once, same_Some)

    -- it lies outside where that is no block of the account's
    pub not_found : ((space_at store of).payer ≢ account) ⊎ (large_tag < tag) → LiesOutside heap S address
    not_found other = outside_if (λ s k r h number low. elim (holds address 1 (s, r)) as (λ b. holds address 1 (s, r) ≡ b → b ≡ false) [
      | false ↦ λ e. refl
      | true ↦ λ e.
          let was = in_map s r h in
          let one = only s r was.0 e in
          let parts = found_parts regions address start of tag found in
          let is_tag = same_Some k tag (sym (number_in_map s k number) ∙ ap (get regions.tags) one.0 ∙ parts.3) in
          let bytes = value_at (part account store).spaces r.of was.1 in
          let pays : (space_at store of).payer ≡ account = ap (λ d. (space_at store d).payer) (sym one.1) ∙ (paid_in_part account r.of bytes.0 store bytes.1).payer in
          absurd (⊎_elim (λ (apart : (space_at store of).payer ≢ account). apart pays) (λ (high : large_tag < tag). omega (arith, high, is_tag, low)) other)
    ] refl)

    module _ (pays : (space_at store of).payer ≡ account) where
      -- a region that the account pays for
      own : (r : Region) × (get S.heap start ≡ Some r) × (r.of ≡ of) × (get S.tags start ≡ Some tag) × (start ≤ address) × (address < start + r.pages * 4096)
      own =
          let parts = found_parts regions address start of tag found in
          let paid = ap is_some (ap (λ a. get (part a store).spaces of) (sym pays) ∙ part_of_payer store of found_exists) in
          let here = region_shown start parts.0 parts.1 (ap (λ k. is_some (get (part account store).spaces k)) parts.2 ∙ paid) in
          let held = held_parts address start parts.0 parts.4 in
          (parts.0, here, parts.2, number_shown start parts.0 here ∙ parts.3, held.0, held.1)

      pub found_large : tag ≡ large_tag → LiesInLarge S address start of
      found_large is =
          let r = own in
          let large : is_large_tag (get S.tags start) ≡ true = rw (r.3) (grind (arith, nat_tests)) in
          record {
            pages = r.0.pages;
            region = get-large S start ∙ ap (λ b. cond b (get S.heap start) None) large ∙ r.1 ∙ ap (λ k. Some (record { of = k; pages = r.0.pages })) r.2;
            low = r.4;
            high = r.5;
          }

      pub found_chunk : tag < large_tag → LiesInChunk heap address tag (address - start)
      found_chunk low =
          let r = own in
          let all = sound.laid.all start tag r.0 r.1 r.3 low in
          let stands = sound.laid.chunks tag all.0 in
          let same = same_Some _ r.0 (sym stands.region ∙ ap (get S.heap) all.1 ∙ r.1) in
          let pages = ap (λ (x : Region). x.pages) same in
          let whole = stands.whole in
          let from = r.4 in
          let to = r.5 in
          let at = all.1 in
          record { there = all.0; at = omega (arith, at, from); inside = omega (arith, whole, pages, from, to) }

-- ---- where a large block of the list stands

-- a number that stands in a list comes there
pub times_there : (xs : List ℕ) (i : ℕ) → i < length xs → 1 ≤ times_in xs (get_or xs i 0)
times_there [] i there = absurd (omega (arith, there))
times_there (x ∷ xs) zero there = let t : (x == x) ≡ true = grind (arith, nat_tests) in omega (arith, sum_by-cons (λ y. cond (y == x) 1 0) x xs ∙ ap (λ b. cond b 1 0 + times_in xs x) t)
times_there (x ∷ xs) (suc i) there = omega (arith, sum_by-cons (λ y. cond (y == get_or xs i 0) 1 0) x xs, times_there xs i (omega (arith, there)))

module _ (heap : Heap) (store : Store) (regions : Regions) (sound : IsSound heap store regions) (map : AreSound regions) (start : ℕ) (listed : 1 ≤ times_in heap.large.items start) where
  abbrev T : Share
  T = share_at (payer_of heap) store regions

  at_region : (r : Region) × (get (large_regions T) start ≡ Some r)
  at_region = search rules

  -- the map finds its region
  pub large_found : heap_found regions start ≡ None → ⊥
  large_found none =
      let r = at_region in
      let least = (sound.laid.large_stands start r.0 r.1).least in
      ⊎_elim
      (λ (before : start < start). omega (arith, before))
      (λ (past : start + r.0.pages * 4096 ≤ start). omega (arith, past, least))
      ((none_found heap store regions sound map start none).large start r.0 r.1)

  pub large_is : (s of tag : ℕ) → heap_found regions start ≡ Some (s, of, tag) → LiesInLarge T start start of
  large_is s of tag found =
      let r = at_region in
      let least = (sound.laid.large_stands start r.0 r.1).least in
      let there = (in_share (part (payer_of heap) store) regions.heap regions.tags start r.0 (large_there T start r.0 r.1)).0 in
      let one = only heap store regions sound map start s of tag found start r.0 there (grind (arith, nat_tests)) in
      record {
        pages = r.0.pages;
        region = r.1 ∙ ap (λ k. Some (record { of = k; pages = r.0.pages })) one.1;
        low = omega arith;
        high = omega (arith, least);
      }

-- what is told of an option is there where the option is
pub told_there : {X Y : Type 0} (f : X → Y) (o : Option X) (p : Option Y) → option_map f o ≡ p → (p ≡ None → ⊥) → is_some o ≡ true
told_there f None p e some = absurd (some (sym e))
told_there f (Some x) p e some = refl
