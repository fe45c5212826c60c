-- A memory stays sound over each call, and is what the call's contract says.
use Rattle.std.proofs.lemmas.Bool.Decides.{nat_tests}
use Rattle.std.proofs.Common.{[], get_or, ◌≡◌, ◌≢◌, ℕ, ◌+◌, ◌*◌, ◌/◌, ◌^◌, ◌<◌, ◌≤◌, min, List, length, Some, Ok, Err, refl, sym, ap, subst, ◌∙◌, arith, inl, inr}
use Rattle.std.specs.Prelude.{⊤, Option, None, Result, IfOk, OnOk, OnErr}
use Rattle.std.specs.Option.{option_map}
use Rattle.std.specs.Result.{result_err}
use Rattle.std.specs.FinMap.{get, insert, remove}
use Rattle.std.proofs.lemmas.Bool.{cases_lt}
use Rattle.std.proofs.lemmas.List.{length-replicate}
use Rattle.std.proofs.lemmas.Option.{none-some}
use Rattle.page_pool.specs.Pages.{free_count, fresh_pages}
use Rattle.page_pool.specs.declared.pool.PageNo.{PageNo}
use Rattle.slab.specs.Slab.{Slab, Updates, HasRoomFor}
use Rattle.slab.specs.Slab as slab
use Rattle.trade_base.specs.Bytes.{with_bytes}
use Rattle.trade_base.specs.Page.{page_of}
use Rattle.trade_base.proofs.BytesLemmas.{length-with_bytes}
use Rattle.trade_base.specs.declared.id.AccountId.{AccountId}
use Rattle.trade_base.specs.declared.refusal.Refusal.{Refusal}
use Rattle.own_model.specs.Account.{Account, Fits, shortage, charged, credited}
use Rattle.own_model.specs.OwnState.{zeros}
use Rattle.own_model.proofs.StepLemmas.{covers}
use Rattle.own_model.proofs.NatMapLemmas.{apart_from_free}
use Rattle.quota_core.specs.Books.{Books, IsOpen, account_at, fresh_books, with_account, with_child, with_moved, without_account, parent_at, AreRelated, KeepsLimits, ram_limits, caps_limits}
use Rattle.quota_core.proofs.BooksLaws.{account_there}
use Rattle.quota_core.proofs.SlabMap.{map_of-empty, get-map_of_at, get-map_of_none, ContainsKey-map_of, len-map_of}
use Rattle.dataspace_core.specs.Store.{Store, Space, fresh_store, room_in, Exists, space_at, with_space, without_space, with_bytes_at, OpensPart, RaisesPart, ClosesPart}
use Rattle.dataspace_core.specs.Layout.{IsNewRun, IsGiven, IsClosed, IsWritten, IsRun, HasMovedDown, NoneLiesAfter, NoneLiesIn, run_bytes, space_of, store_of}
use Rattle.dataspace_core.specs.Paid.{IsPaid, IsSound, size_of}
use Rattle.dataspace_core.specs.declared.dataspace.Dataspace.{Dataspace}
use Rattle.dataspace_core.proofs.SpacesLemmas.{starts_at}
use Rattle.dataspace_core.proofs.PartLemmas.{space_at-some, opens-with_child, raises-with_moved, closes-without_account}
use Rattle.dataspace_core.proofs.LaidOutLemmas.{IsRun-laid_out, length-space_of, IsLaidOut-insert, map_of-insert_space, IsLaidOut-remove, map_of-remove_space, IsLaidOut-written, map_of-written, after_remove, ends_behind, starts_outside}
use Rattle.dataspace_core.proofs.PaidLemmas.{free_covers, places_cover, size_fits, use_covers, payer_apart, IsPaid-more, IsPaid-less, IsPaid-same, IsPaid-opened, IsPaid-raised, IsPaid-closed, pays_for_none, IsPaid-fresh}

-- the same facts of equal memories
moved : (s t : Store) (free pages more : ℕ) → t ≡ s → pages ≡ more → IsPaid s free pages → IsPaid t free more
moved s t free pages more e p paid = subst (λ m. IsPaid t free m) p (subst (λ u. IsPaid u free pages) (sym e) paid)

-- equal books make equal memories
pub same_store : (books others : Books) (pool : List (Option (List ℕ))) (table : List PageNo) (spaces : Slab Dataspace) → books ≡ others → store_of books pool table spaces ≡ store_of others pool table spaces
same_store books others pool table spaces e = ap (λ b. store_of b pool table spaces) e

-- what a call leaves is sound, and contracts see this
pub record LeavesSound (books : Books) (pool : List (Option (List ℕ))) (table : List PageNo) (room : ℕ) (spaces : Slab Dataspace) (value : Store) : Type 0 where
  pub sound : IsSound books pool table room spaces
  pub is : store_of books pool table spaces ≡ value

-- what stands in the slab under a key is what contracts see there
pub record IsFound (pool : List (Option (List ℕ))) (table : List PageNo) (ds : ℕ) (d : Dataspace) (value : Store) : Type 0 where
  pub run : IsRun pool table d.run.start d.run.count
  pub small : d.run.count * 4096 < 2 ^ 64
  pub size : d.run.count * 4096 ≡ length (space_at value ds).bytes
  pub payer : d.payer.0 ≡ (space_at value ds).payer
  pub bytes : run_bytes pool table d.run.start d.run.count ≡ (space_at value ds).bytes

-- the same of a dataspace whose run starts at a known page
pub record RunsFrom (pool : List (Option (List ℕ))) (table : List PageNo) (spaces : Slab Dataspace) (ds start : ℕ) (value : Store) : Type 0 where
  pub space : Dataspace
  pub there : slab.get spaces ds ≡ Some space
  pub same : space.run.start ≡ start
  pub run : IsRun pool table start space.run.count
  pub size : space.run.count * 4096 ≡ length (space_at value ds).bytes
  pub bytes : run_bytes pool table start space.run.count ≡ (space_at value ds).bytes

module _ {books : Books} {pool : List (Option (List ℕ))} {table : List PageNo} {room : ℕ} {spaces : Slab Dataspace} (sound : IsSound books pool table room spaces) where
  -- what contracts see
  abbrev store : Store
  store = store_of books pool table spaces

  -- ---- one dataspace

  -- a dataspace that exists is in the slab
  pub key_there : {value : Store} (ds : ℕ) → store ≡ value → Exists value ds → slab.ContainsKey spaces ds
  key_there ds view exists = ContainsKey-map_of (space_of pool table) spaces ds (subst (λ (s : Store). Exists s ds) (sym view) exists)

  module _ (ds : ℕ) (d : Dataspace) (there : slab.get spaces ds ≡ Some d) where
    -- what contracts see of it
    space_there : get store.spaces ds ≡ Some (space_of pool table d)
    space_there = get-map_of_at (space_of pool table) spaces ds d there

    -- and read under its key
    space_at-there : space_at store ds ≡ space_of pool table d
    space_at-there = space_at-some store ds (space_of pool table d) space_there

    -- its pages make its size
    size_there : length (space_of pool table d).bytes ≡ d.run.count * 4096
    size_there = length-space_of pool table spaces sound.laid_out ds d there

    -- its size is below 2^64
    size_small : d.run.count * 4096 < 2 ^ 64
    size_small = omega (arith, size_fits store _ _ sound.paid ds (space_of pool table d) space_there, size_there, sound.paid.few)

    -- all of that at once
    pub is_found : {value : Store} → store ≡ value → IsFound pool table ds d value
    unfolding space_of
    is_found view = grind (arith, nat_tests, IsRun-laid_out, size_small, space_at-there, size_there)

    -- its payer is whom the slab names
    payer_is : (space_of pool table d).payer ≡ d.payer.0
    unfolding space_of
    payer_is = refl

    -- ---- it goes

    -- its payer's account is open
    pub payer_open : IsOpen books d.payer.0
    payer_open = subst (IsOpen books) payer_is (sound.paid.payers ds (space_of pool table d) space_there)

    -- and has an account
    payer_at : get books.accounts d.payer.0 ≡ Some (account_at books d.payer.0)
    payer_at = account_there books d.payer.0 payer_open

    -- whose use covers it
    covered : (d.run.count * 4096 ≤ (account_at books d.payer.0).ram_used) × (1 ≤ (account_at books d.payer.0).caps_used)
    covered =
        let enough = use_covers store _ _ sound.paid ds (space_of pool table d) (account_at books d.payer.0) space_there (ap (get books.accounts) payer_is ∙ payer_at) in
        (omega (arith, enough.0, size_there), enough.1)

    -- the payer uses as many bytes at least
    pub ram_covered : d.run.count * 4096 ≤ (account_at books d.payer.0).ram_used
    ram_covered = covered.0

    -- and one capability at least
    pub caps_covered : 1 ≤ (account_at books d.payer.0).caps_used
    caps_covered = covered.1

    -- a dataspace has a page at least
    page_there : 0 < d.run.count
    page_there = omega (arith, sound.paid.sized ds (space_of pool table d) space_there, size_there)

    module _ {new_books : Books} {new_pool : List (Option (List ℕ))} {new_table : List PageNo} {new_room : ℕ} {left new_spaces : Slab Dataspace} {size : ℕ} (is : size ≡ d.run.count * 4096) (credit : new_books ≡ with_account books d.payer.0 (credited (account_at books d.payer.0) size 1)) (given : IsGiven pool new_pool table d.run.start d.run.count) (closed : IsClosed table new_table d.run.start d.run.count) (updates : Updates spaces left ds None) (moves : HasMovedDown d.run left new_spaces) (places : new_spaces.capacity ≡ spaces.capacity) (same_room : new_room ≡ room) where
      -- the payer after the credit
      abbrev credited_payer : Account
      credited_payer = credited (account_at books d.payer.0) (length (space_of pool table d).bytes) 1

      -- the memory has lost this dataspace, and its payer has the credit
      gone : store_of new_books new_pool new_table new_spaces ≡ record { books = with_account books (space_of pool table d).payer credited_payer; spaces = remove store.spaces ds; places = spaces.capacity }
      gone = grind (arith, nat_tests, same_store, size_there, payer_is, map_of-remove_space)

      -- the memory stays sound, and is what the contract of `free` says
      pub leaves-free : LeavesSound new_books new_pool new_table new_room new_spaces (without_space store ds)
      unfolding space_of
      leaves-free = record {
        sound = record {
          laid_out = IsLaidOut-remove pool table spaces sound.laid_out ds d there new_pool new_table given closed left new_spaces updates moves;
          paid = moved _ (store_of new_books new_pool new_table new_spaces) (free_count new_pool) _ _ gone (sym given.size)
              (IsPaid-less store _ _ sound.paid ds (space_of pool table d) (account_at books d.payer.0) space_there (ap (get books.accounts) payer_is ∙ payer_at) (free_count new_pool) (omega (arith, given.given, size_there)));
          counted = omega (arith, sound.counted, closed.shorter, given.given, given.size);
          roomy = omega (arith, sound.roomy, same_room, given.size);
        };
        is =
            gone
            ∙ ap (λ (s : Space). record { books = with_account books s.payer (credited (account_at books s.payer) (length s.bytes) 1); spaces = remove store.spaces ds; places = spaces.capacity })
            (sym space_at-there);
      }

    -- ---- it is written

    module _ {new_pool : List (Option (List ℕ))} {offset : ℕ} {bytes : List ℕ} (fits : offset + length bytes ≤ d.run.count * 4096) (written : IsWritten pool new_pool table d.run.start d.run.count offset bytes) where
      -- the dataspace with the part in it
      abbrev becomes : Space
      becomes = record { payer = (space_of pool table d).payer; bytes = with_bytes (space_of pool table d).bytes offset bytes }

      -- the memory has the written dataspace under its key, and is else what it was
      changed : store_of books new_pool table spaces ≡ record store { spaces = insert store.spaces ds becomes }
      changed = ap (λ m. record store { spaces = m }) (map_of-written pool table spaces sound.laid_out ds d there new_pool offset bytes written)

      -- it has the size that it had
      same_size : size_of becomes ≡ size_of (space_of pool table d)
      same_size = length-with_bytes (space_of pool table d).bytes offset bytes (omega (arith, fits, size_there))

      -- the memory stays sound, and is what the contract of `write` says
      pub leaves-write : LeavesSound books new_pool table room spaces (with_bytes_at store ds offset bytes)
      leaves-write = record {
        sound = record {
          laid_out = IsLaidOut-written pool table spaces sound.laid_out ds d there new_pool offset bytes written;
          paid = moved _ (store_of books new_pool table spaces) (free_count new_pool) _ _ changed (sym written.size)
              (subst (λ free. IsPaid (record store { spaces = insert store.spaces ds becomes }) free (length pool)) (sym written.taken)
              (IsPaid-same store _ _ sound.paid ds (space_of pool table d) becomes space_there refl same_size));
          counted = omega (arith, sound.counted, written.taken, written.size);
          roomy = omega (arith, sound.roomy, written.size);
        };
        is =
            changed
            ∙ ap (λ (s : Space). record store { spaces = insert store.spaces ds (record { payer = s.payer; bytes = with_bytes s.bytes offset bytes }) })
            (sym space_at-there);
      }

  -- by the start of its run
  pub runs_from : {value : Store} (ds start : ℕ) → option_map (λ (d : Dataspace). d.run.start) (slab.get spaces ds) ≡ Some start → store ≡ value
      → RunsFrom pool table spaces ds start value
  runs_from ds start is view =
      let at = starts_at (slab.get spaces ds) start is in
      let found = is_found ds at.space at.there view in
      record {
        space = at.space;
        there = at.there;
        same = at.same;
        run = subst (λ s. IsRun pool table s at.space.run.count) at.same found.run;
        size = found.size;
        bytes = ap (λ s. run_bytes pool table s at.space.run.count) (sym at.same) ∙ found.bytes;
      }

  pub leaves-write_from : {value : Store} (ds start : ℕ) (found : RunsFrom pool table spaces ds start value) {new_pool : List (Option (List ℕ))} {offset : ℕ} {bytes : List ℕ}
      → offset + length bytes ≤ found.space.run.count * 4096 → IsWritten pool new_pool table start found.space.run.count offset bytes
      → LeavesSound books new_pool table room spaces (with_bytes_at store ds offset bytes)
  leaves-write_from ds start found {new_pool} {offset} {bytes} fits written =
      leaves-write ds found.space found.there fits
      (subst (λ s. IsWritten pool new_pool table s found.space.run.count offset bytes) (sym found.same) written)

  -- where a dataspace that goes was the last in the table, none of those that are left lies behind it
  pub none_behind : (ds : ℕ) (d : Dataspace) → slab.get spaces ds ≡ Some d → {left : Slab Dataspace} → Updates spaces left ds None → {new_table : List PageNo} → IsClosed table new_table d.run.start d.run.count → length new_table ≤ d.run.start → NoneLiesAfter d.run left
  none_behind ds d there {left} updates closed last = λ q x found.
      let old = after_remove spaces left ds updates q x found in
      elim (cases_lt d.run.start x.run.start) [
        | inl behind ↦ absurd (omega (arith, closed.shorter, last, ends_behind pool table spaces sound.laid_out ds d there q x old.1 old.0 (page_there q x old.1) behind))
        | inr front ↦ front
      ]

  -- and none of them starts within its run
  pub none_within : (ds : ℕ) (d : Dataspace) → slab.get spaces ds ≡ Some d → {left : Slab Dataspace} → Updates spaces left ds None → NoneLiesIn d.run left
  none_within ds d there {left} updates = λ q x found.
      let old = after_remove spaces left ds updates q x found in
      starts_outside pool table spaces sound.laid_out ds d there q x old.1 old.0 (page_there q x old.1)

  -- ---- a dataspace comes

  module _ (account n size : ℕ) (is : size ≡ page_of n) (some : 1 ≤ n) (opens : IsOpen books account) (enough : None ≡ shortage (account_at books account) size 1) where
    -- the account covers it
    fits : Fits (account_at books account) size 1
    fits = covers (account_at books account) size 1 (sym enough)

    -- it has a page at least
    page : 4096 ≤ size
    page = omega (arith, is, some)

    -- there is a page for each that the account can pay for
    pub pages_free : size / 4096 ≤ free_count pool
    pages_free =
        let free = free_covers store _ _ sound.paid account (account_at books account) size (account_there books account opens) fits.ram_fits in
        omega (arith, free)

    -- and room for it in the table
    pub entries_free : length table + size / 4096 ≤ room
    entries_free = omega (arith, pages_free, sound.counted, sound.roomy)

    -- and a place
    pub place_free : HasRoomFor spaces 1
    place_free =
        let place = places_cover store _ _ sound.paid account (account_at books account) size (account_there books account opens) page fits.ram_fits fits.caps_fit in
        omega (arith, place, len-map_of (space_of pool table) spaces)

    module _ {new_books : Books} {new_pool : List (Option (List ℕ))} {new_table : List PageNo} {new_room : ℕ} {new_spaces : Slab Dataspace} {key : ℕ} {d : Dataspace} (updates : Updates spaces new_spaces key (Some d)) (charge : new_books ≡ with_account books account (charged (account_at books account) size 1)) (payer : d.payer.0 ≡ account) (count : d.run.count ≡ size / 4096) (run : IsNewRun pool table new_pool new_table d.run.start (size / 4096)) (vacant : slab.get spaces key ≡ None) (places : new_spaces.capacity ≡ spaces.capacity) (same_room : new_room ≡ room) where
      -- the size is whole pages
      whole : size / 4096 * 4096 ≡ size
      whole = omega (arith, is)

      -- the pages that were taken are its run
      new_run : IsNewRun pool table new_pool new_table d.run.start d.run.count
      new_run = subst (IsNewRun pool table new_pool new_table d.run.start) (sym count) run

      -- no dataspace had the key
      pub vacant_there : get store.spaces key ≡ None
      vacant_there = get-map_of_none (space_of pool table) spaces key vacant

      -- the memory has a dataspace of zeros more, and its payer has the charge
      come : store_of new_books new_pool new_table new_spaces ≡ record { books = with_account books account (charged (account_at books account) size 1); spaces = insert store.spaces key (record { payer = account; bytes = zeros size }); places = spaces.capacity }
      come = grind (arith, nat_tests, same_store, map_of-insert_space, new_run, whole)

      -- the memory stays sound, and is what the contract of `alloc` says
      pub leaves-alloc : LeavesSound new_books new_pool new_table new_room new_spaces (with_space store key account n)
      leaves-alloc = record {
        sound = record {
          laid_out = IsLaidOut-insert pool table spaces sound.laid_out new_pool new_table d new_run key new_spaces updates;
          paid = moved _ (store_of new_books new_pool new_table new_spaces) (free_count new_pool) _ _ come (sym run.size)
              (IsPaid-more store _ _ sound.paid key account size (account_at books account) (account_there books account opens) fits page vacant_there (free_count new_pool) (omega (arith, run.taken, whole)));
          counted = omega (arith, sound.counted, run.longer, run.taken, run.size);
          roomy = omega (arith, sound.roomy, same_room, run.size);
        };
        is =
            come
            ∙ ap (λ m. record { books = with_account books account (charged (account_at books account) m 1); spaces = insert store.spaces key (record { payer = account; bytes = zeros m }); places = spaces.capacity }) is;
      }

  -- ---- an account is opened

  module _ (parent ram caps : ℕ) (opens : IsOpen books parent) (new_books : Books) (limits : KeepsLimits books new_books) where
    -- where it is granted the memory stays sound
    IsSound-with_child : (child : ℕ) → None ≡ shortage (account_at books parent) ram caps → new_books ≡ with_child books parent child ram caps → get books.accounts child ≡ None → IsSound new_books pool table room spaces
    IsSound-with_child child enough is new = record {
      laid_out = sound.laid_out;
      paid = moved _ (store_of new_books pool table spaces) _ _ _ (same_store new_books _ pool table spaces is) refl
          (IsPaid-opened store _ _ sound.paid parent child ram caps (account_at books parent) (account_there books parent opens) (covers (account_at books parent) ram caps (sym enough)) new
          (sym (ap ram_limits is) ∙ limits.ram) (sym (ap caps_limits is) ∙ limits.caps));
      counted = sound.counted;
      roomy = sound.roomy;
    }

    -- so it does in any case
    pub IsSound-open : (r : Result AccountId Refusal) → result_err r ≡ shortage (account_at books parent) ram caps → IfOk r (λ child. new_books ≡ with_child books parent child.0 ram caps) → IfOk r (λ child. get books.accounts child.0 ≡ None) → OnErr r (new_books ≡ books) → IsSound new_books pool table room spaces
    IsSound-open (Ok child) refusal ok fresh err = IsSound-with_child child.0 refusal ok fresh
    IsSound-open (Err e) refusal ok fresh err = subst (λ b. IsSound b pool table room spaces) (sym err) sound

  -- ---- limits move from one account to another

  module _ (from to ram caps : ℕ) (apart : from ≢ to) (from_open : IsOpen books from) (to_open : IsOpen books to) (new_books : Books) (limits : KeepsLimits books new_books) where
    -- where that is granted the memory stays sound, and so it does where it is refused
    pub IsSound-move : (r : Result ⊤ Refusal) → result_err r ≡ shortage (account_at books from) ram caps → OnOk r (new_books ≡ with_moved books from to ram caps) → OnErr r (new_books ≡ books) → IsSound new_books pool table room spaces
    IsSound-move (Ok done) refusal is err = record {
      laid_out = sound.laid_out;
      paid = moved _ (store_of new_books pool table spaces) _ _ _ (same_store new_books _ pool table spaces is) refl
          (IsPaid-raised store _ _ sound.paid from to ram caps (account_at books from) (account_at books to) (account_there books from from_open) (account_there books to to_open) (covers (account_at books from) ram caps (sym refusal))
          (sym (ap ram_limits is) ∙ limits.ram) (sym (ap caps_limits is) ∙ limits.caps));
      counted = sound.counted;
      roomy = sound.roomy;
    }
    IsSound-move (Err e) refusal is err = subst (λ b. IsSound b pool table room spaces) (sym err) sound

    -- the one's part has fewer limits, and the other's more
    pub moves-part : (r : Result ⊤ Refusal) → OnOk r (new_books ≡ with_moved books from to ram caps) → OnOk r (RaisesPart from to ram caps store (store_of new_books pool table spaces))
    moves-part (Ok done) is = rw is (raises-with_moved store from to ram caps apart)
    moves-part (Err e) is = tt

  -- ---- an account is closed

  module _ (account : ℕ) (related : AreRelated books account (parent_at books account)) (unused : (account_at books account).caps_used ≡ 0) (new_books : Books) (is : new_books ≡ without_account books account) where
    -- the memory stays sound
    pub IsSound-close : KeepsLimits books new_books → IsSound new_books pool table room spaces
    IsSound-close limits = record {
      laid_out = sound.laid_out;
      paid = moved _ (store_of new_books pool table spaces) _ _ _ (same_store new_books _ pool table spaces is) refl
          (IsPaid-closed store _ _ sound.paid account (account_at books account) (account_at books (parent_at books account)) (account_there books account related.child_open) unused (account_there books (parent_at books account) related.parent_open)
          (sym (ap ram_limits is) ∙ limits.ram) (sym (ap caps_limits is) ∙ limits.caps));
      counted = sound.counted;
      roomy = sound.roomy;
    }

    -- its part is gone, and its parent's has its limits
    pub closes-part : ClosesPart account (parent_at books account) store (store_of new_books pool table spaces)
    closes-part =
        rw is (closes-without_account store account related.apart
        (pays_for_none store _ _ sound.paid account (account_at books account) (account_there books account related.child_open) unused))

  -- an open account is not a key that was free
  parent_apart : (parent child : ℕ) → IsOpen books parent → get books.accounts child ≡ None → parent ≢ child
  parent_apart parent child opens free = apart_from_free books.accounts child parent free opens

  -- the new account's part has the limits it was opened with, and no dataspace
  pub opens-part : (parent ram caps : ℕ) → IsOpen books parent → (new_books : Books) → 0 < room_in store → (r : Result AccountId Refusal) → IfOk r (λ child. new_books ≡ with_child books parent child.0 ram caps) → IfOk r (λ child. get books.accounts child.0 ≡ None) → IfOk r (λ child. OpensPart parent child.0 ram caps store (store_of new_books pool table spaces))
  opens-part parent ram caps opens new_books place (Ok child) ok fresh =
      rw ok (opens-with_child store parent child.0 ram caps (parent_apart parent child.0 opens fresh) place (payer_apart store _ _ sound.paid child.0 fresh))
  opens-part parent ram caps opens new_books place (Err e) ok fresh = tt

-- ---- boot

module _ (books : Books) (pool : List (Option (List ℕ))) (table : List PageNo) (room : ℕ) (spaces : Slab Dataspace) (pages caps accounts : ℕ) (no_slots : spaces.slots ≡ []) (fresh : books ≡ fresh_books books.root (pages * 4096) caps accounts) where
  -- there is no dataspace yet
  no_space : (ds : ℕ) (d : Dataspace) → slab.get spaces ds ≡ Some d → ⊥
  no_space ds d there = none-some d (sym (ap (λ slots. get_or slots ds None) no_slots) ∙ there)

  -- the memory is what the contract of `boot` says
  fresh_one : store_of books pool table spaces ≡ fresh_store books.root pages caps accounts spaces.capacity
  fresh_one = λ i. record { books = fresh i; spaces = map_of-empty (space_of pool table) spaces no_slots i; places = spaces.capacity }

  -- and it is sound
  pub leaves-boot : pages ≤ 4096 → min pages caps ≤ spaces.capacity → pool ≡ fresh_pages pages → free_count pool ≡ pages → table ≡ [] → room ≡ pages → LeavesSound books pool table room spaces (fresh_store books.root pages caps accounts spaces.capacity)
  leaves-boot few places all_free count none roomy =
      let size : length pool ≡ pages = ap length all_free ∙ length-replicate pages None in
      record {
        sound = record {
          laid_out = record {
            within = λ ds d there. absurd (no_space ds d there);
            held = λ ds d there. absurd (no_space ds d there);
            apart = λ a b x y there _. absurd (no_space a x there);
          };
          paid = moved _ (store_of books pool table spaces) (free_count pool) _ _ fresh_one (sym size)
              (subst (λ free. IsPaid (fresh_store books.root pages caps accounts spaces.capacity) free pages) (sym count) (IsPaid-fresh books.root pages caps accounts spaces.capacity few places));
          counted = omega (arith, ap length none, count, size);
          roomy = omega (arith, roomy, size);
        };
        is = fresh_one;
      }
