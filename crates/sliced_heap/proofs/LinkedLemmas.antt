-- The blocks of a share when their headers stay, when a block is put first, and when one is taken out.
use Rattle.std.proofs.Common.{◌≡◌, ◌≢◌, ◌≤◌, ◌+◌, ◌*◌, ◌==◌, ℕ, true, false, cond, List, [], ◌∷◌, drop, length, refl, sym, ap, subst, ◌∙◌, ⊎_elim, true≢false, arith, rules}
use Rattle.std.proofs.lemmas.Bool.{cases_eq}
use Rattle.std.proofs.lemmas.Bool.Decides.{nat_tests}
use Rattle.std.proofs.lemmas.Option.{none-some, same_Some}
use Rattle.std.specs.Prelude.{None, Some}
use Rattle.std.specs.Option.{option_map}
use Rattle.std.specs.FinMap.{get, insert, remove}
use Rattle.own_model.specs.NatMap.{NatMap, picked}
use Rattle.own_model.specs.Region.{Region}
use Rattle.own_model.specs.Moved.{moved_up}
use Rattle.own_model.specs.Sliced.{sliced_header as header}
use Rattle.own_model.proofs.NatMapLemmas.{same, after_insert, get-insert_same, get-insert_other, get-remove_same, get-remove_other, before_remove, get-picked, get-picked_at, and_then_alike, picked_alike, picked-insert_some, picked-remove}
use Rattle.own_model.proofs.NatMapMovedLemmas.{moved_up-insert, moved_up-remove}
use Rattle.dataspace_core.specs.Store.{Part}
use Rattle.dataspace_core.specs.Share.{Share}
use Rattle.sliced_heap.specs.Chain.{link_to, is_listed, IsChain}
use Rattle.sliced_heap.specs.Sliced.{block_regions, payload_of, sliced_of, word_at, next_in, previous_in, start_in, HasHeader, Stands, IsLinked, HeadersChange, PutFirst, TakenOut}
use Rattle.sliced_heap.proofs.ChainLemmas.{taken_out, linked_kept, chain_pushed, linked_without, once_without, listed_without, left_listed}
use Rattle.sliced_heap.proofs.HeaderLemmas.{word_same}
use Rattle.dataspace_core.proofs.WindowLaws.{length_some}

-- ---- which blocks there are

-- the block to which the first link leads is listed
pub first_is_listed : (next previous : ℕ → ℕ) (first b : ℕ) (blocks : List ℕ) → IsChain next previous first blocks → first ≡ link_to b → is_listed blocks b ≡ true
first_is_listed next previous first b [] chain is = let none = chain.linked in absurd (true≢false (grind (arith, nat_tests)))
first_is_listed next previous first b (x ∷ xs) chain is = let leads = chain.linked.0 in grind (arith, nat_tests)

-- a block that stands has room for a header
pub stands_header : (S : Share) (ds : ℕ) → Stands S ds → HasHeader S.part ds
stands_header S ds s = record { bytes = s.bytes; there = s.there; long = let w = s.whole in let n = s.some in omega (arith, w, n) }

module _ (S : Share) (first : ℕ) (linked : IsLinked S first) where
  -- a dataspace of which no region is isn't listed
  pub no_block_unlisted : (k : ℕ) → ((s : ℕ) (r : Region) → get (block_regions S) s ≡ Some r → r.of ≢ k) → is_listed linked.blocks k ≡ false
  no_block_unlisted k none = search (rules)

  -- no two regions are of one dataspace
  pub one_region : (s t : ℕ) (r q : Region) → get (block_regions S) s ≡ Some r → get (block_regions S) t ≡ Some q → r.of ≡ q.of → s ≡ t
  one_region s t r q h g e = sym (linked.all s r h).1 ∙ ap (start_in S.part) e ∙ (linked.all t q g).1

-- ---- headers stay

module _ (S T : Share) (first : ℕ) (linked : IsLinked S first) (regions : block_regions T ≡ block_regions S) where
  -- a share with the same regions, and the same headers of blocks, has the same blocks
  pub still_linked : ((offset b : ℕ) → offset + 8 ≤ header → is_listed linked.blocks b ≡ true → word_at T.part offset b ≡ word_at S.part offset b) →
      ((b : ℕ) → is_listed linked.blocks b ≡ true → option_map length (get T.part.spaces b) ≡ option_map length (get S.part.spaces b)) → IsLinked T first
  still_linked words lengths = search (rules, linked_kept, length_some)

  module _ (bytes : (s : ℕ) (r : Region) → get (block_regions S) s ≡ Some r → get T.part.spaces r.of ≡ get S.part.spaces r.of) where
    -- a listed block has the same bytes
    listed_bytes : (b : ℕ) → is_listed linked.blocks b ≡ true → get T.part.spaces b ≡ get S.part.spaces b
    listed_bytes b t = bytes _ _ (linked.stands b t).region

    -- so where all bytes of blocks stay, the blocks are the same
    pub alike_linked : IsLinked T first
    alike_linked = still_linked (λ offset b low t. word_same S.part T.part offset b (listed_bytes b t)) (λ b t. ap (option_map length) (listed_bytes b t))

    pub alike_payloads : sliced_of T ≡ sliced_of S
    unfolding sliced_of
    alike_payloads = ap (λ m. moved_up header (picked (payload_of T.part.spaces) m)) regions
        ∙ ap (moved_up header) (picked_alike (payload_of T.part.spaces) (payload_of S.part.spaces) (block_regions S) (λ s r h. ap (option_map (drop header)) (bytes s r h)))

-- ---- a payload is another

module _ (S T : Share) (first ds start pages : ℕ) (payload : List ℕ) (linked : IsLinked S first) (regions : block_regions T ≡ block_regions S)
    (block : get (block_regions S) start ≡ Some (record { of = ds; pages = pages })) (new : payload_of T.part.spaces (record { of = ds; pages = pages }) ≡ Some payload)
    (others : (k : ℕ) → k ≢ ds → get T.part.spaces k ≡ get S.part.spaces k) where
  -- at its block's start it is the new one, and elsewhere all are what they were
  payload_now : (s : ℕ) → get (picked (payload_of T.part.spaces) (block_regions S)) s ≡ get (insert (picked (payload_of S.part.spaces) (block_regions S)) start payload) s
  payload_now s = ⊎_elim
      (λ (here : s ≡ start). rw here (get-picked_at (payload_of T.part.spaces) (block_regions S) start _ block ∙ new ∙ sym (get-insert_same _ start payload start refl)))
      (λ (other : s ≢ start).
      get-picked (payload_of T.part.spaces) (block_regions S) s
      ∙ and_then_alike (payload_of T.part.spaces) (payload_of S.part.spaces) (get (block_regions S) s) (λ r h. ap (option_map (drop header)) (others r.of (λ e. other (one_region S first linked s start r _ h block e))))
      ∙ sym (get-picked (payload_of S.part.spaces) (block_regions S) s) ∙ sym (get-insert_other _ start payload s other))
      (cases_eq s start)

  pub payload_put : sliced_of T ≡ insert (sliced_of S) (start + header) payload
  unfolding sliced_of
  payload_put = ap (λ m. moved_up header (picked (payload_of T.part.spaces) m)) regions ∙ ap (moved_up header) (same _ _ payload_now) ∙ moved_up-insert header _ start payload

-- ---- a block is put first

module _ (S T : Share) (first ds start pages : ℕ) (bytes : List ℕ) (linked : IsLinked S first)
    (unlisted : is_listed linked.blocks ds ≡ false) (free : get (block_regions S) start ≡ None) (there : get S.part.spaces ds ≡ Some bytes)
    (some : 1 ≤ pages) (whole : length bytes ≡ pages * 4096) (regions : block_regions T ≡ insert (block_regions S) start (record { of = ds; pages = pages }))
    (blocks : List ℕ) (headers : HeadersChange blocks S.part T.part) (put : PutFirst first ds start S.part T.part) where
  -- listed blocks are others
  apart : (b : ℕ) → is_listed linked.blocks b ≡ true → b ≢ ds
  apart b t e = true≢false (sym t ∙ ap (is_listed linked.blocks) e ∙ unlisted)

  -- what stands at a place then
  region_at_place : (s : ℕ) → get (block_regions T) s ≡ get (insert (block_regions S) start (record { of = ds; pages = pages })) s
  region_at_place s = ap (λ (m : NatMap Region). get m s) regions

  -- the new block stands
  first_stands : Stands T ds
  first_stands = search (rules, length_some, region_at_place, get-insert_same)

  -- and the others stand as before
  others_stand : (b : ℕ) → is_listed linked.blocks b ≡ true → Stands T b
  others_stand b t = search (rules, apart, none-some, length_some, region_at_place, get-insert_other)

  -- all blocks are linked
  pub put_linked : IsLinked T (link_to ds)
  put_linked = record {
    blocks = ds ∷ linked.blocks;
    chain = chain_pushed (next_in S.part) (previous_in S.part) (next_in T.part) (previous_in T.part) first ds linked.blocks
        unlisted put.leads put.begins
        (λ b t. put.others_next b (apart b t))
        (λ b t. put.others_previous b (apart b t))
        linked.chain;
    stands = λ b t. ⊎_elim
        (λ (same_block : b ≡ ds). subst (Stands T) (sym same_block) first_stands)
        (λ (other : b ≢ ds). others_stand b (grind (arith, nat_tests)))
        (cases_eq b ds);
    all = λ s r h. ⊎_elim
        (λ (new : (s ≡ start) × (r ≡ record { of = ds; pages = pages })). let of_ds : r.of ≡ ds = ap (λ (x : Region). x.of) new.1 in
        (rw of_ds (grind (arith, nat_tests)), ap (start_in T.part) of_ds ∙ put.starts ∙ sym new.0))
        (λ old. let was = linked.all s r old.1 in
        (let t = was.0 in grind (arith, nat_tests), put.others_start r.of (apart r.of was.0) ∙ was.1))
        (after_insert (block_regions S) start _ s r (sym (region_at_place s) ∙ h));
  }

  -- what lies behind the headers is what was there, and the new block's payload
  pub put_payloads : sliced_of T ≡ insert (sliced_of S) (start + header) (drop header bytes)
  unfolding sliced_of
  put_payloads =
      ap (λ m. moved_up header (picked (payload_of T.part.spaces) m)) regions
      ∙ ap (moved_up header) (picked-insert_some (payload_of T.part.spaces) (block_regions S) start _ (drop header bytes) (headers.payloads ds ∙ ap (option_map (drop header)) there)
      ∙ ap (λ m. insert m start (drop header bytes)) (picked_alike (payload_of T.part.spaces) (payload_of S.part.spaces) (block_regions S) (λ s r h. headers.payloads r.of)))
      ∙ moved_up-insert header _ start (drop header bytes)

-- ---- a block is taken out

module _ (S T : Share) (first ds start : ℕ) (q : Part) (linked : IsLinked S first) (listed : is_listed linked.blocks ds ≡ true) (at : start_in S.part ds ≡ start)
    (regions : block_regions T ≡ remove (block_regions S) start)
    (blocks : List ℕ) (headers : HeadersChange blocks S.part q) (out : TakenOut ds S.part q) (others : (k : ℕ) → k ≢ ds → get T.part.spaces k ≡ get q.spaces k) where
  -- a region that is left stood at another place, and is of another block
  left_region : (s : ℕ) (r : Region) → get (block_regions T) s ≡ Some r → (r.of ≢ ds) × (get (block_regions S) s ≡ Some r)
  left_region s r h = search (rules, before_remove, none-some, get-remove_same)

  -- those that are left stand as before
  left_stand : (b : ℕ) → is_listed (taken_out ds linked.blocks) b ≡ true → Stands T b
  left_stand b t = search (rules, left_listed, apart, word_same, same_Some, length_some, get-remove_other)

  -- all that are left are linked
  pub out_linked : IsLinked T (cond (0 == previous_in S.part ds) (next_in S.part ds) first)
  out_linked = record {
    blocks = taken_out ds linked.blocks;
    chain = record {
      linked = linked_without (next_in S.part) (previous_in S.part) (next_in T.part) (previous_in T.part) ds linked.blocks 0 first listed linked.chain.once
          (λ b t. omega arith)
          (λ b t apart. word_same q T.part 0 b (others b apart) ∙ out.others_next b apart)
          (λ b t apart. word_same q T.part 8 b (others b apart) ∙ out.others_previous b apart)
          linked.chain.linked;
      once = once_without ds linked.blocks linked.chain.once;
    };
    stands = left_stand;
    all = λ s r h.
        let was = left_region s r h in
        let old = linked.all s r was.1 in
        (let t = old.0 in let apart = was.0 in let l = listed_without ds r.of linked.blocks in grind (arith, nat_tests), word_same q T.part 16 r.of (others r.of was.0) ∙ out.others_start r.of ∙ old.1);
  }

  -- so the block's payload is gone, and no other
  pub out_payloads : sliced_of T ≡ remove (sliced_of S) (start + header)
  unfolding sliced_of
  out_payloads =
      ap (moved_up header) (picked_alike (payload_of T.part.spaces) (payload_of S.part.spaces) (block_regions T) (λ s r h. ap (option_map (drop header)) (others r.of (left_region s r h).0) ∙ headers.payloads r.of)
      ∙ ap (picked (payload_of S.part.spaces)) regions ∙ picked-remove (payload_of S.part.spaces) (block_regions S) start)
      ∙ moved_up-remove header _ start
