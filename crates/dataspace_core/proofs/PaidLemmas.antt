-- Dataspaces stay paid for, and what an account has left the machine has.
use Rattle.std.proofs.Common.{◌≡◌, ◌≢◌, ℕ, ◌+◌, ◌*◌, ◌≤◌, min, Some, is_some, unwrap_or, refl, sym, ap, subst, ◌∙◌, inl, inr, arith, rules}
use Rattle.std.proofs.lemmas.Bool.Decides.{nat_tests}
use Rattle.std.proofs.lemmas.Option.{none-some}
use Rattle.std.specs.Prelude.{Option, None}
use Rattle.std.specs.Ordering.{nat_cmp}
use Rattle.std.specs.FinMap.{get, insert, remove, len, len-empty}
use Rattle.own_model.specs.NatMap.{NatMap, total, owed}
use Rattle.own_model.specs.Account.{Account, Fits, charged, credited, opened, parted_with}
use Rattle.own_model.specs.Donation.{raised}
use Rattle.own_model.specs.OwnState.{zeros}
use Rattle.own_model.proofs.NatMapLemmas.{get-empty, get-remove_other, IsSome-insert, IsSome-at, after_insert, each_after_insert, apart_from_free, before_remove, by_insertions}
use Rattle.own_model.proofs.StepUseLemmas.{length-zeros}
use Rattle.own_model.proofs.Totals.{total-empty, total-insert_new, total-insert_same, total-remove, total_spare, total_le, len-insert_new, len-total, owed-empty, owed-insert_new, owed-insert_same, owed-remove, owed_nothing, owed_at_le, total_owed_le, total-owed, total_at_le}
use Rattle.quota_core.specs.Books.{Books, IsOpen, account_at, with_child, with_moved, without_account, ram_limits, caps_limits}
use Rattle.dataspace_core.proofs.LimitLaws.{fresh_limits}
use Rattle.dataspace_core.specs.Store.{Store, Space, fresh_store, IsOpenIn, account_in, parent_in, places_in, ram_limits_in, caps_limits_in}
use Rattle.dataspace_core.specs.Paid.{IsPaid, IsPaying, size_of, payer_of}

-- ---- how many pages there are dataspaces for

-- a page for each value
total-page : {X : Type 0} (m : NatMap X) → total (λ _. 4096) m ≡ len m * 4096
total-page {X} = by_insertions (λ m. total (λ _. 4096) m ≡ len m * 4096)
    (omega (arith, total-empty (λ (_ : X). 4096), len-empty nat_cmp X))
    (λ m k v free e. omega (arith, e, total-insert_new (λ (_ : X). 4096) m k v free, len-insert_new m k v free))

-- ---- accounts

-- an account that is open is what a contract reads under its key
account_at-some : (books : Books) (account : ℕ) (a : Account) → get books.accounts account ≡ Some a → account_at books account ≡ a
account_at-some books account a there = ap (λ (o : Option Account). unwrap_or o (opened 0 0)) there

-- ---- no hidden shortage

module _ (store : Store) (free pages : ℕ) (paid : IsPaid store free pages) where
  -- what an account has left the machine has free
  pub free_covers : (account : ℕ) (a : Account) (n : ℕ) → get store.books.accounts account ≡ Some a → a.ram_used + n ≤ a.ram_limit → n ≤ free * 4096
  free_covers account a n there room =
      let spare = total_spare (λ (a : Account). a.ram_used) (λ a. a.ram_limit) store.books.accounts account a n there room (λ q w is. (paid.paying q w is).within.ram) in
      let exact = total-owed size_of payer_of (λ (a : Account). a.ram_used) store.spaces store.books.accounts paid.payers (λ q w is. (paid.paying q w is).ram) in
      omega (arith, spare, exact, paid.ram_limits, paid.backed)

  -- as many pages as there are dataspaces are full
  pages_full : len store.spaces * 4096 ≤ total size_of store.spaces
  pages_full = omega (arith, total-page store.spaces, total_le (λ (_ : Space). 4096) size_of store.spaces paid.sized)

  -- and where it has a page and a capability left, there is a place for one more
  pub places_cover : (account : ℕ) (a : Account) (n : ℕ) → get store.books.accounts account ≡ Some a → 4096 ≤ n → a.ram_used + n ≤ a.ram_limit → a.caps_used + 1 ≤ a.caps_limit → len store.spaces + 1 ≤ places_in store
  places_cover account a n there page room_ram room =
      let free_pages = free_covers account a n there room_ram in
      let spare = total_spare (λ (a : Account). a.caps_used) (λ a. a.caps_limit) store.books.accounts account a 1 there room (λ q w is. (paid.paying q w is).within.caps) in
      let within = total_owed_le (λ (_ : Space). 1) payer_of (λ (a : Account). a.caps_used) store.spaces store.books.accounts paid.payers (λ q w is. (paid.paying q w is).caps) in
      omega (arith, free_pages, page, spare, within, pages_full, paid.backed, paid.covered, len-total store.spaces)

  -- no dataspace is larger than the machine
  pub size_fits : (ds : ℕ) (space : Space) → get store.spaces ds ≡ Some space → size_of space ≤ pages * 4096
  size_fits ds space there = omega (arith, total_at_le size_of store.spaces ds space there, paid.backed)

  -- a payer's use covers its dataspace
  pub use_covers : (ds : ℕ) (space : Space) (a : Account) → get store.spaces ds ≡ Some space → get store.books.accounts space.payer ≡ Some a → (size_of space ≤ a.ram_used) × (1 ≤ a.caps_used)
  use_covers ds space a there opens = search (rules, owed_at_le)

  -- an account that is not open pays for nothing
  pub payer_apart : (child : ℕ) → get store.books.accounts child ≡ None → (ds : ℕ) (space : Space) → get store.spaces ds ≡ Some space → space.payer ≢ child
  payer_apart child closed ds space there = apart_from_free store.books.accounts child space.payer closed (paid.payers ds space there)

  -- ---- one account is another, and the dataspaces are others

  module _ (account : ℕ) (a b : Account) (opens : get store.books.accounts account ≡ Some a) (ram_limit : b.ram_limit ≡ a.ram_limit) (caps_limit : b.caps_limit ≡ a.caps_limit) (spaces : NatMap Space) where
    -- the memory after that
    abbrev after : Store
    after = record store { books = record store.books { accounts = insert store.books.accounts account b }; spaces = spaces }

    -- all is paid for where this account pays for what is its own now, and the others owe what they owed
    IsPaid-changed : (free_now : ℕ) → ((q : ℕ) (s : Space) → get spaces q ≡ Some s → IsOpenIn store s.payer × (4096 ≤ size_of s)) → IsPaying spaces account b → ((f : Space → ℕ) (k : ℕ) → k ≢ account → owed f payer_of spaces k ≡ owed f payer_of store.spaces k) → free_now * 4096 + total size_of spaces ≡ pages * 4096 → IsPaid after free_now pages
    IsPaid-changed free_now each here others backed = record {
      payers = λ q s there. IsSome-insert store.books.accounts account b s.payer (each q s there).0;
      sized = λ q s there. (each q s there).1;
      paying = λ k v there. elim (after_insert store.books.accounts account b k v there) [
        | inl new ↦ subst (λ (w : Account). IsPaying spaces k w) (sym new.1) (subst (λ q. IsPaying spaces q b) (sym new.0) here)
        | inr old ↦
            let was = paid.paying k v old.1 in
            record { within = was.within; ram = others size_of k old.0 ∙ was.ram; caps = omega (arith, others (λ _. 1) k old.0, was.caps) }
      ];
      ram_limits = total-insert_same (λ (v : Account). v.ram_limit) store.books.accounts account b a opens ram_limit ∙ paid.ram_limits;
      covered = omega (arith, total-insert_same (λ (v : Account). v.caps_limit) store.books.accounts account b a opens caps_limit, paid.covered);
      backed = backed;
      few = paid.few;
    }

  -- an account's use of capabilities is another, and covers its dataspaces
  pub IsPaid-capped : (account : ℕ) (a b : Account) → get store.books.accounts account ≡ Some a → b.ram_used ≡ a.ram_used → b.ram_limit ≡ a.ram_limit → b.caps_limit ≡ a.caps_limit → owed (λ _. 1) payer_of store.spaces account ≤ b.caps_used → b.caps_used ≤ b.caps_limit → IsPaid (record store { books = record store.books { accounts = insert store.books.accounts account b } }) free pages
  IsPaid-capped account a b opens used ram_limit caps_limit covers within =
      let was = paid.paying account a opens in
      IsPaid-changed account a b opens ram_limit caps_limit store.spaces free
      (λ q s there. (paid.payers q s there, paid.sized q s there))
      (record { within = record { ram = omega (arith, was.within.ram, used, ram_limit); caps = within }; ram = was.ram ∙ sym used; caps = covers })
      (λ f k apart. refl) paid.backed

  -- an account pays for a new dataspace
  module _ (ds payer size : ℕ) (a : Account) (opens : get store.books.accounts payer ≡ Some a) (fits : Fits a size 1) (page : 4096 ≤ size) (new : get store.spaces ds ≡ None) where
    -- the new dataspace
    abbrev space : Space
    space = record { payer = payer; bytes = zeros size }

    -- its payer owes more, and the others owe what they owed
    owed_more : (f : Space → ℕ) (n : ℕ) → f space ≡ n → owed f payer_of (insert store.spaces ds space) payer ≡ owed f payer_of store.spaces payer + n
    owed_more f n e = let more = owed-insert_new f payer_of store.spaces ds space payer new in grind (arith, nat_tests, more, e)

    pub IsPaid-more : (free_now : ℕ) → free_now * 4096 + size ≡ free * 4096 → IsPaid (after payer a (charged a size 1) opens refl refl (insert store.spaces ds space)) free_now pages
    IsPaid-more free_now less =
        let was = paid.paying payer a opens in
        IsPaid-changed payer a (charged a size 1) opens refl refl (insert store.spaces ds space) free_now
        (λ q s there. elim (after_insert store.spaces ds space q s there) [
          | inl new ↦ (subst (IsOpenIn store) (sym (ap payer_of new.1)) (IsSome-at store.books.accounts payer a opens), omega (arith, ap size_of new.1, length-zeros size, page))
          | inr old ↦ (paid.payers q s old.1, paid.sized q s old.1)
        ])
        (record {
          within = record { ram = fits.ram_fits; caps = fits.caps_fit };
          ram = owed_more size_of size (length-zeros size) ∙ ap (λ n. n + size) was.ram;
          caps = omega (arith, owed_more (λ _. 1) 1 refl, was.caps);
        })
        (λ f k apart. let more = owed-insert_new f payer_of store.spaces ds space k new in grind (arith, nat_tests, more, apart))
        (omega (arith, total-insert_new size_of store.spaces ds space new, length-zeros size, paid.backed, less))

  -- a dataspace goes, and its payer is credited
  module _ (ds : ℕ) (space : Space) (a : Account) (there : get store.spaces ds ≡ Some space) (opens : get store.books.accounts space.payer ≡ Some a) where
    -- its payer owes less
    owed_less : (f : Space → ℕ) → owed f payer_of (remove store.spaces ds) space.payer + f space ≡ owed f payer_of store.spaces space.payer
    owed_less f = let less = owed-remove f payer_of store.spaces ds space space.payer there in grind (arith, nat_tests, less)

    pub IsPaid-less : (free_now : ℕ) → free_now * 4096 ≡ free * 4096 + size_of space → IsPaid (after space.payer a (credited a (size_of space) 1) opens refl refl (remove store.spaces ds)) free_now pages
    IsPaid-less free_now more =
        let was = paid.paying space.payer a opens in
        IsPaid-changed space.payer a (credited a (size_of space) 1) opens refl refl (remove store.spaces ds) free_now
        (λ q s found. let old = before_remove store.spaces ds q s found in (paid.payers q s old, paid.sized q s old))
        (record {
          within = record { ram = omega (arith, was.within.ram); caps = omega (arith, was.within.caps) };
          ram = omega (arith, owed_less size_of, was.ram);
          caps = omega (arith, owed_less (λ _. 1), was.caps);
        })
        (λ f k apart. let less = owed-remove f payer_of store.spaces ds space k there in grind (arith, nat_tests, less, apart))
        (omega (arith, total-remove size_of store.spaces ds space there, paid.backed, more))

  -- ---- a dataspace gets other bytes

  module _ (ds : ℕ) (space other : Space) (there : get store.spaces ds ≡ Some space) (payer : other.payer ≡ space.payer) (size : size_of other ≡ size_of space) where
    -- all stays paid for where the payer and the size stay
    pub IsPaid-same : IsPaid (record store { spaces = insert store.spaces ds other }) free pages
    IsPaid-same = search (rules, after_insert, owed-insert_same, total-insert_same)

  -- ---- limits move

  -- an account pays for what it paid for once it has parted with limits that it covers
  parted_pays : (account ram caps : ℕ) (a : Account) → get store.books.accounts account ≡ Some a → Fits a ram caps → IsPaying store.spaces account (parted_with (account_in store account) ram caps)
  parted_pays account ram caps a opens fits = search (rules, account_at-some)

  -- and once it is given limits
  raised_pays : (account ram caps : ℕ) (a : Account) → get store.books.accounts account ≡ Some a → IsPaying store.spaces account (raised (account_in store account) ram caps)
  raised_pays account ram caps a opens = search (rules, account_at-some)

  -- all is paid for where each payer is open, each open account pays for what is its own, and all limits are what they were
  module _ (moved : Books) (ram_moved : ram_limits moved ≡ ram_limits_in store) (caps_moved : caps_limits moved ≡ caps_limits_in store) where
    IsPaid-moved : ((ds : ℕ) (space : Space) → get store.spaces ds ≡ Some space → IsOpen moved space.payer) → ((k : ℕ) (v : Account) → get moved.accounts k ≡ Some v → IsPaying store.spaces k v) → IsPaid (record store { books = moved }) free pages
    IsPaid-moved payers paying = search (rules)

  -- what holds of each account, of one that is written and of another, holds of each after both are written
  each_of_two : (P : ℕ → Account → Type 0) (accounts : NatMap Account) (j k : ℕ) (x y : Account) → ((q : ℕ) (w : Account) → get accounts q ≡ Some w → P q w) → P j x → P k y → (q : ℕ) (w : Account) → get (insert (insert accounts j x) k y) q ≡ Some w → P q w
  each_of_two P accounts j k x y each first second =
      each_after_insert (insert accounts j x) k y P (each_after_insert accounts j x P each first) second

  -- a parent opens an account
  module _ (parent child ram caps : ℕ) (a : Account) (opens : get store.books.accounts parent ≡ Some a) (fits : Fits a ram caps) (new : get store.books.accounts child ≡ None) where
    -- the books with the new account
    abbrev opening : Books
    opening = with_child store.books parent child ram caps

    -- which pays for nothing
    child_pays : IsPaying store.spaces child (opened ram caps)
    child_pays =
        let none = λ (f : Space → ℕ). owed_nothing f payer_of store.spaces child (payer_apart child new) in
        record { within = record { ram = omega arith; caps = omega arith }; ram = none size_of; caps = omega (arith, none (λ _. 1)) }

    -- all is paid for
    pub IsPaid-opened : ram_limits opening ≡ ram_limits_in store → caps_limits opening ≡ caps_limits_in store → IsPaid (record store { books = opening }) free pages
    IsPaid-opened ram_moved caps_moved =
        IsPaid-moved opening ram_moved caps_moved
        (λ q s found. IsSome-insert (insert store.books.accounts parent _) child _ s.payer (IsSome-insert store.books.accounts parent _ s.payer (paid.payers q s found)))
        (each_of_two (IsPaying store.spaces) store.books.accounts parent child _ _ paid.paying (parted_pays parent ram caps a opens fits) child_pays)

  -- a parent raises an account
  module _ (parent child ram caps : ℕ) (a b : Account) (opens : get store.books.accounts parent ≡ Some a) (child_opens : get store.books.accounts child ≡ Some b) (fits : Fits a ram caps) where
    -- the books with the limits moved
    abbrev raising : Books
    raising = with_moved store.books parent child ram caps

    pub IsPaid-raised : ram_limits raising ≡ ram_limits_in store → caps_limits raising ≡ caps_limits_in store → IsPaid (record store { books = raising }) free pages
    IsPaid-raised ram_moved caps_moved =
        IsPaid-moved raising ram_moved caps_moved
        (λ q s found. IsSome-insert (insert store.books.accounts parent _) child _ s.payer (IsSome-insert store.books.accounts parent _ s.payer (paid.payers q s found)))
        (each_of_two (IsPaying store.spaces) store.books.accounts parent child _ _ paid.paying (parted_pays parent ram caps a opens fits) (raised_pays child ram caps b child_opens))

  -- an account that uses no capability pays for nothing
  pub pays_for_none : (account : ℕ) (a : Account) → get store.books.accounts account ≡ Some a → a.caps_used ≡ 0 → (ds : ℕ) (space : Space) → get store.spaces ds ≡ Some space → space.payer ≢ account
  pays_for_none account a opens unused ds space there same =
      let one = owed_at_le (λ (_ : Space). 1) payer_of store.spaces ds space account there same in
      absurd (omega (arith, one, unused, (paid.paying account a opens).caps))

  -- so it uses no RAM
  pub no_ram_used : (account : ℕ) (o : Option Account) → get store.books.accounts account ≡ o → (unwrap_or o (opened 0 0)).caps_used ≡ 0 → (unwrap_or o (opened 0 0)).ram_used ≡ 0
  no_ram_used account None closed unused = refl
  no_ram_used account (Some a) opens unused =
      let none = owed_nothing size_of payer_of store.spaces account (pays_for_none account a opens unused) in
      omega (arith, none, (paid.paying account a opens).ram)

  -- and may go
  module _ (account : ℕ) (a b : Account) (opens : get store.books.accounts account ≡ Some a) (unused : a.caps_used ≡ 0) (parent_opens : get store.books.accounts (parent_in store account) ≡ Some b) where
    -- the books without it
    abbrev closing : Books
    closing = without_account store.books account

    pub IsPaid-closed : ram_limits closing ≡ ram_limits_in store → caps_limits closing ≡ caps_limits_in store → IsPaid (record store { books = closing }) free pages
    IsPaid-closed ram_moved caps_moved =
        IsPaid-moved closing ram_moved caps_moved
        (λ q s found. IsSome-insert (remove store.books.accounts account) (parent_in store account) _ s.payer (ap is_some (get-remove_other store.books.accounts account s.payer (pays_for_none account a opens unused q s found)) ∙ paid.payers q s found))
        (each_after_insert (remove store.books.accounts account) (parent_in store account) _ (IsPaying store.spaces)
        (λ q w found. paid.paying q w (before_remove store.books.accounts account q w found))
        (raised_pays (parent_in store account) (account_in store account).ram_limit (account_in store account).caps_limit b parent_opens))

-- ---- boot

-- there is nothing to pay for
pub IsPaid-fresh : (root pages caps accounts places : ℕ) → pages ≤ 4096 → min pages caps ≤ places → IsPaid (fresh_store root pages caps accounts places) pages pages
IsPaid-fresh root pages caps accounts places few covered = search (rules, none-some, get-empty, after_insert, owed-empty, fresh_limits, total-insert_new, total-empty)
