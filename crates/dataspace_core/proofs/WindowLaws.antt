-- Laws for callers: a heap window of the memory, and the shares in it, after calls for one account.
use Rattle.std.proofs.Common.{◌≡◌, ◌≢◌, ◌≤◌, ◌<◌, ◌+◌, ◌*◌, ◌/◌, ℕ, List, length, Some, is_some, refl, sym, ap, subst, ◌∙◌, ⊎_elim, unwrap_or, arith, rules}
use Rattle.std.proofs.lemmas.Bool.{cases_eq}
use Rattle.std.proofs.lemmas.Bool.Decides.{nat_tests}
use Rattle.std.proofs.lemmas.Option.{none-some, same_Some}
use Rattle.std.specs.Prelude.{Option, None}
use Rattle.std.specs.Option.{option_map}
use Rattle.std.specs.FinMap.{get, insert, len}
use Rattle.trade_base.specs.Page.{page_of}
use Rattle.own_model.specs.Account.{Account, opened, charged}
use Rattle.own_model.specs.HeapWindow.{heap_low, heap_high, pages_of_all}
use Rattle.own_model.specs.NatMap.{NatMap, total}
use Rattle.own_model.specs.OwnState.{zeros}
use Rattle.own_model.specs.Region.{Region, IsPlace}
use Rattle.own_model.proofs.RegionApartLemmas.{LieApart-insert}
use Rattle.own_model.proofs.ByteLemmas.{length-zeros}
use Rattle.own_model.proofs.NatMapLemmas.{none_if, value_at, get-insert_same, get-insert_other}
use Rattle.own_model.proofs.Totals.{total-insert_new, len-insert_new}
use Rattle.dataspace_core.specs.Store.{Store, Space, space_at, Part, part, account_in, IsOpenIn, PartBecomes, ram_limits_in, part_with_space, with_space, OtherSpacesStay}
use Rattle.dataspace_core.specs.Share.{share, share_in, IsShown, IsWindowOf, KeepsShares, IsShownByNone}
use Rattle.dataspace_core.proofs.LimitLaws.{limits_after, pages_held, regions_within_pages}
use Rattle.dataspace_core.proofs.PartLaws.{paid_in_part, part_of_payer, open_after, account_of-part}
use Rattle.dataspace_core.proofs.PartLemmas.{space_at-some, part-fresh}
use Rattle.dataspace_core.proofs.ShareLaws.{share_attached, share_attached_other, HasOneMore}

-- what has a length is there
pub length_some : (o : Option (List ℕ)) (n : ℕ) → option_map length o ≡ Some n → (bytes : List ℕ) × (o ≡ Some bytes) × (length bytes ≡ n)
length_some None n h = cc
length_some (Some bytes) n h = (bytes, refl, cc)

-- what a part has is in the memory
pub in_memory : (account ds : ℕ) (bytes : List ℕ) (store : Store) → get (part account store).spaces ds ≡ Some bytes → (space : Space) × (get store.spaces ds ≡ Some space) × (space.payer ≡ account) × (space.bytes ≡ bytes)
in_memory account ds bytes store has = search (rules, paid_in_part, value_at, space_at-some)

-- and what is in the memory is in its payer's part
pub in_part : (store : Store) (ds : ℕ) (space : Space) → get store.spaces ds ≡ Some space → get (part space.payer store).spaces ds ≡ Some space.bytes
in_part store ds space there = search (rules, space_at-some, part_of_payer)

-- nobody else has it
pub in_no_other : (account other ds : ℕ) (bytes : List ℕ) (store : Store) → get (part account store).spaces ds ≡ Some bytes → other ≢ account → get (part other store).spaces ds ≡ None
in_no_other account other ds bytes store has apart = search (rules, none_if, in_memory, same_Some)

-- what isn't in the memory is in no part
pub in_none : (account ds : ℕ) (store : Store) → get store.spaces ds ≡ None → get (part account store).spaces ds ≡ None
in_none account ds store free = none_if _ (λ b there. let mine = in_memory account ds b store there in none-some mine.0 (sym free ∙ mine.1))

-- no region shows a dataspace that isn't there
pub unshown_free : (store : Store) (heap : NatMap Region) (ds : ℕ) → ((s : ℕ) (r : Region) → get heap s ≡ Some r → IsShown store.spaces r) → get store.spaces ds ≡ None → IsShownByNone heap ds
unshown_free store heap ds shows fresh s r h e = let shown = shows s r h in none-some shown.space (sym fresh ∙ ap (get store.spaces) (sym e) ∙ shown.there)

-- a region shows what a part has whole
pub shown_of_part : (account : ℕ) (store : Store) (region : Region) (bytes : List ℕ) → get (part account store).spaces region.of ≡ Some bytes → 1 ≤ region.pages → length bytes ≡ region.pages * 4096 → IsShown store.spaces region
shown_of_part account store region bytes has some whole =
    let at = in_memory account region.of bytes store has in
    record { space = at.0; there = at.1; some = some; whole = ap length at.3 ∙ whole }

-- the account that a part has is what a contract reads
pub own_account : (account : ℕ) (store : Store) → IsOpenIn store account → (part account store).account ≡ Some (account_in store account)
unfolding part
own_account account store opens =
    let was = value_at store.books.accounts account opens in
    was.1 ∙ ap Some (sym (ap (λ (o : Option Account). unwrap_or o (opened 0 0)) was.1))

-- ---- after a call for an account

module _ (account : ℕ) (after : Part) (old new : Store) (becomes : PartBecomes account after old new) where
  -- a region shows what it showed, where the account's dataspaces have kept their lengths
  pub shown_after : (region : Region) → ((bytes : List ℕ) → get (part account old).spaces region.of ≡ Some bytes → option_map length (get after.spaces region.of) ≡ Some (length bytes)) → IsShown old.spaces region → IsShown new.spaces region
  shown_after region lengths shown = ⊎_elim
      (λ (own : shown.space.payer ≡ account).
      let has = ap (λ a. get (part a old).spaces region.of) (sym own) ∙ in_part old region.of shown.space shown.there in
      let now = length_some (get after.spaces region.of) (length shown.space.bytes) (lengths shown.space.bytes has) in
      shown_of_part account new region now.0 (ap (λ (p : Part). get p.spaces region.of) becomes.own ∙ now.1) shown.some (now.2 ∙ shown.whole))
      (λ (other : shown.space.payer ≢ account).
      let has = ap (λ (p : Part). get p.spaces region.of) (becomes.others shown.space.payer other) ∙ in_part old region.of shown.space shown.there in
      shown_of_part shown.space.payer new region shown.space.bytes has shown.some shown.whole)
      (cases_eq shown.space.payer account)

  -- the account stays open, and the limits of all stay, where its own limit does
  pub account_after : (a : Account) → after.account ≡ Some a → a.ram_limit ≡ (account_in old account).ram_limit → IsOpenIn old account → (IsOpenIn new account) × (ram_limits_in new ≡ ram_limits_in old)
  account_after a is limit opens = (open_after becomes (ap is_some is), limits_after account after old new a becomes is opens limit)

  -- a window stays one of the memory while the account and the lengths of its dataspaces stay
  pub window_after : (pages most : ℕ) (heap : NatMap Region) → after.account ≡ (part account old).account → IsOpenIn old account →
      ((k : ℕ) → option_map length (get after.spaces k) ≡ option_map length (get (part account old).spaces k)) →
      IsWindowOf old pages most heap → IsWindowOf new pages most heap
  window_after pages most heap same opens lengths window = search (rules, account_after, own_account, shown_after)

-- ---- a new dataspace of an account is attached, and keeps a number

module _ (account ds size tag start : ℕ) (old new : Store) (pages most : ℕ) (heap : NatMap Region) (tags : NatMap ℕ) (opens : IsOpenIn old account) (window : IsWindowOf old pages most heap)
    (fresh : get old.spaces ds ≡ None) (becomes : PartBecomes account (part_with_space (part account old) ds size) old new) (free : get heap start ≡ None) where
  -- its region
  abbrev pub region : Region
  region = record { of = ds; pages = page_of size / 4096 }

  -- no region shows it yet
  pub unshown : IsShownByNone heap ds
  unshown = unshown_free old heap ds window.shown_whole fresh

  -- it is all zero
  pub new_there : get (part account new).spaces ds ≡ Some (zeros (page_of size))
  new_there = ap (λ (p : Part). get p.spaces ds) becomes.own ∙ get-insert_same (part account old).spaces ds _ ds refl

  -- the account's other dataspaces stay
  pub others_there : OtherSpacesStay account ds old new
  others_there k apart = ap (λ (p : Part). get p.spaces k) becomes.own ∙ get-insert_other (part account old).spaces ds _ k apart

  -- they are one more
  pub count_then : len (part account new).spaces ≡ len (part account old).spaces + 1
  count_then = ap (λ (p : Part). len p.spaces) becomes.own ∙ len-insert_new (part account old).spaces ds _ (part-fresh old account ds fresh)

  -- it is paid
  pub charge_then : (part account new).account ≡ Some (charged (account_in old account) (page_of size) 1)
  charge_then = ap (λ (p : Part). p.account) becomes.own ∙ ap (λ (a : Account). Some (charged a (page_of size) 1)) (account_of-part account old)

  keys : HasOneMore (part account old) (part account new) ds
  keys k = search (rules, new_there, nat_tests, others_there, cases_eq)

  -- the account's share has the region more
  pub share_then : share account new (insert heap start region) (insert tags start tag) ≡ record { part = part account new; heap = insert (share account old heap tags).heap start region; tags = insert (share account old heap tags).tags start tag }
  unfolding share_in
  share_then = share_attached heap tags start region tag free (part account old) (part account new) keys unshown

  -- all other shares stay
  pub shares_then : KeepsShares account old new heap tags (insert heap start region) (insert tags start tag)
  shares_then = search (rules, share_attached_other, in_none)

  limits_then : (IsOpenIn new account) × (ram_limits_in new ≡ ram_limits_in old)
  limits_then = account_after account (part_with_space (part account old) ds size) old new becomes _ refl (ap (λ (a : Account). a.ram_limit) (account_of-part account old)) opens

  pub open_then : IsOpenIn new account
  open_then = limits_then.0

  -- what is in the window but the new region was there
  was_there : (s : ℕ) (r : Region) → s ≢ start → get (insert heap start region) s ≡ Some r → get heap s ≡ Some r
  was_there s r other h = sym (get-insert_other heap start region s other) ∙ h

  of_new : (s : ℕ) (r : Region) → s ≡ start → get (insert heap start region) s ≡ Some r → r.of ≡ ds
  of_new s r here h = ap (λ (x : Region). x.of) (sym (same_Some region r (sym (get-insert_same heap start region s here) ∙ h)))

  shown_then : 1 ≤ size → (s : ℕ) (r : Region) → get (insert heap start region) s ≡ Some r → IsShown new.spaces r
  shown_then some s r h = ⊎_elim
      (λ (here : s ≡ start).
      let is = same_Some region r (sym (get-insert_same heap start region s here) ∙ h) in
      subst (IsShown new.spaces) is (shown_of_part account new region (zeros (page_of size)) new_there (omega (arith, some)) (length-zeros (page_of size) ∙ omega arith)))
      (λ (other : s ≢ start).
      let was = was_there s r other h in
      shown_after account (part_with_space (part account old) ds size) old new becomes r
      (λ bytes has. ap (option_map length) (get-insert_other (part account old).spaces ds _ r.of (unshown s r was)) ∙ ap (option_map length) has)
      (window.shown_whole s r was))
      (cases_eq s start)

  once_then : (s t : ℕ) (r q : Region) → get (insert heap start region) s ≡ Some r → get (insert heap start region) t ≡ Some q → r.of ≡ q.of → s ≡ t
  once_then s t r q h g e = grind (arith, nat_tests, unshown, was_there, of_new, cases_eq)

  -- the window is still one of the memory
  pub window_then : 1 ≤ size → IsPlace heap_low (heap_high pages) heap (page_of size / 4096) start → IsWindowOf new pages most (insert heap start region)
  window_then some place = search (rules, limits_then, LieApart-insert, shown_then, once_then)

-- before it is attached there is room for one region more, and as many pages
pub record HasRoom (pages most more : ℕ) (heap : NatMap Region) : Type 0 where
  pub room : len heap < most
  pub fits : pages_of_all heap + more ≤ pages

pub room_then : (account ds size : ℕ) (old new : Store) (pages most : ℕ) (heap : NatMap Region) → IsOpenIn old account → IsWindowOf old pages most heap → get old.spaces ds ≡ None →
    PartBecomes account (part_with_space (part account old) ds size) old new → 1 ≤ size →
    new ≡ with_space old ds account size → total (λ (s : Space). length s.bytes) new.spaces ≤ ram_limits_in new → HasRoom pages most (page_of size / 4096) heap
room_then account ds size old new pages most heap opens window fresh becomes some now within = grind (arith, nat_tests, account_after, account_of-part, pages_held, regions_within_pages, total-insert_new, length-zeros)

-- a new dataspace is all zero in its account's part
pub new_in_part : (account ds size : ℕ) (old new : Store) → PartBecomes account (part_with_space (part account old) ds size) old new → get (part account new).spaces ds ≡ Some (zeros (page_of size))
new_in_part account ds size old new becomes = ap (λ (p : Part). get p.spaces ds) becomes.own ∙ get-insert_same (part account old).spaces ds _ ds refl

-- and its size is told
pub new_pages : (account ds size told : ℕ) (old new : Store) → PartBecomes account (part_with_space (part account old) ds size) old new → told ≡ length (space_at new ds).bytes → told / 4096 ≡ page_of size / 4096
new_pages account ds size told old new becomes is = ap (λ n. n / 4096) (is ∙ ap length (paid_in_part account ds _ new (new_in_part account ds size old new becomes)).bytes_are ∙ length-zeros (page_of size))
