-- All blocks are given back, one after another.
use Rattle.own_model.proofs.AccountLemmas.{credit_nothing, credit_twice}
use Rattle.std.proofs.Common.{◌≡◌, ◌+◌, ℕ, true, List, [], ◌∷◌, Some, refl, sym, ap, subst, ◌∙◌, true≢false, unwrap_or, arith, rules}
use Rattle.std.proofs.lemmas.Bool.{cases_eq}
use Rattle.std.proofs.lemmas.Option.{none-some}
use Rattle.std.specs.Prelude.{Option}
use Rattle.std.specs.FinMap as map
use Rattle.std.specs.FinMap.{get, remove, empty, len}
use Rattle.std.specs.Ordering.{nat_cmp}
use Rattle.own_model.specs.Account.{Account, credited, opened}
use Rattle.own_model.specs.NatMap.{NatMap, picked, total}
use Rattle.own_model.specs.Region.{Region}
use Rattle.own_model.specs.Moved.{moved_up}
use Rattle.own_model.specs.Sliced.{sliced_header as header, block_size}
use Rattle.own_model.proofs.NatMapLemmas.{same, get-empty, get-remove_same, get-remove_other, before_remove, picked-empty, none_if}
use Rattle.own_model.proofs.NatMapMovedLemmas.{same_moved, get-moved_up, get-moved_up_below}
use Rattle.own_model.proofs.Totals.{total-empty, total-remove, len-remove_at}
use Rattle.region_map.specs.Regions.{Regions}
use Rattle.dataspace_core.specs.Store.{Store, part, account_in}
use Rattle.dataspace_core.specs.Share.{share_in}
use Rattle.dataspace_core.proofs.PartLaws.{account_of-part}
use Rattle.sliced_heap.specs.declared.heap.SlicedHeap.{SlicedHeap}
use Rattle.sliced_heap.specs.Chain.{link_to, is_listed, Linked}
use Rattle.sliced_heap.specs.Sliced.{block_regions, payload_of, sliced_of, start_in, HasHeader}
use Rattle.sliced_heap.specs.Heap.{payer_of, share_at, blocks_at, IsSound, HasNoBlocks, IsBlockAt, KeepsOthers, GivesBlock, GivesAll, OtherRegionsStay, BlocksAreDetached}
use Rattle.sliced_heap.proofs.LinkedLemmas.{first_is_listed, stands_header}
use Rattle.sliced_heap.proofs.BlockLemmas.{is_of}
use Rattle.dataspace_core.proofs.WindowLaws.{own_account}

-- how far the end of a heap has come: what is still to be given back makes, with what is, all
pub record Ends (heap now : SlicedHeap) (old mid : Store) (regions between : Regions) : Type 0 where
  pub sound : IsSound now mid between
  pub payer : payer_of now ≡ payer_of heap
  pub others : KeepsOthers (payer_of heap) old mid regions between
  pub rest : (new : Store) (after : Regions) → GivesAll (payer_of heap) mid new between after → GivesAll (payer_of heap) old new regions after

-- ---- the first block

module _ (heap : SlicedHeap) (store : Store) (regions : Regions) (sound : IsSound heap store regions) (ds : ℕ) (leads : heap.first ≡ link_to ds) where
  first_listed : is_listed sound.linked.blocks ds ≡ true
  first_listed = first_is_listed _ _ heap.first ds sound.linked.blocks sound.linked.chain leads

  -- has a header, which tells where it stands
  pub first_header : HasHeader (part (payer_of heap) store) ds
  unfolding share_in
  first_header = stands_header _ ds (sound.linked.stands ds first_listed)

  pub first_block : (start : ℕ) → start ≡ start_in (part (payer_of heap) store) ds → IsBlockAt (share_at (payer_of heap) store regions) start ds
  unfolding share_in
  first_block start is =
      let stands = sound.linked.stands ds first_listed in
      record { pages = stands.pages; region = ap (get (block_regions (share_at (payer_of heap) store regions))) is ∙ stands.region }

-- ---- none is left

-- no link leads along no blocks
no_blocks : (next previous : ℕ → ℕ) (before link : ℕ) (blocks : List ℕ) → Linked next previous before link blocks → link ≡ 0 → blocks ≡ []
no_blocks next previous before link [] h none = refl
no_blocks next previous before link (x ∷ xs) h none = let leads = h.0 in absurd (omega (arith, leads, none))

module _ (heap : SlicedHeap) (store : Store) (regions : Regions) (sound : IsSound heap store regions) (last : heap.first ≡ 0) where
  none_left : HasNoBlocks (share_at (payer_of heap) store regions)
  none_left s = none_if _ (λ r e. absurd (true≢false (sym (sound.linked.all s r e).0 ∙ ap (λ b. is_listed b r.of) (no_blocks _ _ 0 heap.first sound.linked.blocks sound.linked.chain.linked last))))

  nothing_there : blocks_at (payer_of heap) store regions ≡ empty
  unfolding sliced_of
  nothing_there =
      let none : block_regions (share_at (payer_of heap) store regions) ≡ empty = same _ _ (λ s. none_left s ∙ sym (get-empty s)) in
      ap (λ m. moved_up header (picked (payload_of (share_at (payer_of heap) store regions).part.spaces) m)) none
      ∙ ap (moved_up header) (picked-empty _)
      ∙ same_moved header _ _ (λ q. get-moved_up header empty q ∙ get-empty q ∙ sym (get-empty (q + header))) (λ q low. get-moved_up_below header empty q low ∙ sym (get-empty q))

  pub gives_none : GivesAll (payer_of heap) store store regions regions
  gives_none = record {
    blocks = nothing_there;
    none = none_left;
    charge = own_account (payer_of heap) store sound.opens
        ∙ ap (λ a. Some a) (sym (credit_nothing (account_in store (payer_of heap))))
        ∙ ap (λ n. Some (credited (account_in store (payer_of heap)) n 0)) (sym (ap (total block_size) nothing_there ∙ total-empty block_size))
        ∙ ap (λ n. Some (credited (account_in store (payer_of heap)) (total block_size (blocks_at (payer_of heap) store regions)) n)) (sym (ap len nothing_there ∙ map.len-empty nat_cmp (List ℕ)));
    dataspaces = λ k none. refl;
    count = let n = ap len nothing_there ∙ map.len-empty nat_cmp (List ℕ) in omega (arith, n);
    kept = λ s none. (refl, refl);
    gone = λ s r h. absurd (none-some r (sym (none_left s) ∙ h));
  }

-- ---- one is given back, and then all that are left

-- others stay over two calls
pub keeps_then : (account : ℕ) (old mid new : Store) (regions between after : Regions) → KeepsOthers account old mid regions between → KeepsOthers account mid new between after → KeepsOthers account old new regions after
keeps_then account old mid new regions between after first next = search (rules)

module _ (heap : SlicedHeap) (address : ℕ) (old mid : Store) (regions between : Regions) (sound : IsSound heap old regions) (one : GivesBlock (payer_of heap) address old mid regions between) where
  abbrev account : ℕ
  account = payer_of heap

  -- the region that goes is a block's
  block_there : (r : Region) × (get (block_regions (share_at account old regions)) one.start ≡ Some r)
  block_there =
      let of = is_of (share_at account old regions) heap.first sound.linked address one.payload one.was in
      let is = of.at in
      let at = one.at in
      let same_start : one.start ≡ of.start = omega (arith, is, at) in
      (of.region, ap (get (block_regions (share_at account old regions))) same_start ∙ of.there)

  -- which are left
  left_at : (s : ℕ) → get (block_regions (share_at account mid between)) s ≡ get (remove (block_regions (share_at account old regions)) one.start) s
  left_at s = ap (λ (m : NatMap Region). get m s) one.left

  module _ (new : Store) (after : Regions) (rest : GivesAll account mid new between after) where
    -- what is credited in all
    sum : total block_size (blocks_at account mid between) + block_size one.payload ≡ total block_size (blocks_at account old regions)
    sum = let e = total-remove block_size (blocks_at account old regions) address one.payload one.was in let b = ap (total block_size) one.blocks in omega (arith, e, b)

    number : len (blocks_at account mid between) + 1 ≡ len (blocks_at account old regions)
    number = ap (λ (m : NatMap (List ℕ)). len m + 1) one.blocks ∙ len-remove_at (blocks_at account old regions) address one.payload one.was

    account_mid : account_in mid account ≡ credited (account_in old account) (block_size one.payload) 1
    account_mid = sym (account_of-part account mid) ∙ ap (λ (o : Option Account). unwrap_or o (opened 0 0)) one.charge

    -- what isn't a block stays
    kept_at : OtherRegionsStay account old regions after
    kept_at s none = search (rules, none-some, block_there, left_at, get-remove_other)

    -- and each block goes
    gone_at : BlocksAreDetached account old regions after
    gone_at s r h = search (rules, left_at, get-remove_same, get-remove_other, cases_eq)

    pub gives_then : GivesAll account old new regions after
    gives_then = record {
      blocks = rest.blocks;
      none = rest.none;
      charge = rest.charge
          ∙ ap (λ a. Some (credited a (total block_size (blocks_at account mid between)) (len (blocks_at account mid between)))) account_mid
          ∙ ap (λ a. Some a) (credit_twice (account_in old account) (block_size one.payload) (total block_size (blocks_at account mid between)) 1 (len (blocks_at account mid between)))
          ∙ ap (λ n. Some (credited (account_in old account) n (len (blocks_at account mid between) + 1))) sum
          ∙ ap (λ n. Some (credited (account_in old account) (total block_size (blocks_at account old regions)) n)) number;
      dataspaces = λ k none.
          rest.dataspaces k (λ s r h. none s r (before_remove (block_regions (share_at account old regions)) one.start s r (sym (left_at s) ∙ h)))
          ∙ one.dataspaces k none;
      count = let a = rest.count in let b = one.count in let n = number in omega (arith, a, b, n);
      kept = kept_at;
      gone = gone_at;
    }

-- ---- the walk

-- and goes on when one block more is given back
pub ends_further : (heap now next : SlicedHeap) (address : ℕ) (old mid new : Store) (regions between after : Regions) → Ends heap now old mid regions between → GivesBlock (payer_of now) address mid new between after → IsSound next new after → KeepsOthers (payer_of now) mid new between after → payer_of next ≡ payer_of now → Ends heap next old new regions after
ends_further heap now next address old mid new regions between after far one sound keeps payer = record {
  sound = sound;
  payer = payer ∙ far.payer;
  others = keeps_then (payer_of heap) old mid new regions between after far.others (subst (λ a. KeepsOthers a mid new between after) far.payer keeps);
  rest = λ last all rest. far.rest last all (subst (λ a. GivesAll a mid last between all) far.payer (gives_then now address mid new between after far.sound one last all (subst (λ a. GivesAll a new last after all) (sym far.payer) rest)));
}

-- where there is no first block all are given back
pub ends_all : (heap now : SlicedHeap) (old mid : Store) (regions between : Regions) → Ends heap now old mid regions between → now.first ≡ 0 → GivesAll (payer_of heap) old mid regions between
ends_all heap now old mid regions between far last =
    far.rest mid between (subst (λ a. GivesAll a mid mid between between) far.payer (gives_none now mid between far.sound last))
