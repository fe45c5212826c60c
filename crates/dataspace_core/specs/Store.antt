-- What a contract sees of the memory.
use Rattle.std.specs.Prelude.{◌≡◌, ◌≢◌, ℕ, ◌+◌, ◌*◌, ◌==◌, List, [], length, Option, Some, None, IsSome, if◌then◌else◌, refl}
use Rattle.std.specs.Option.{unwrap_or, option_map}
use Rattle.std.specs.Coded.{Coded, code_by, coded×, coded_ℕ, coded_list}
use Rattle.std.specs.FinMap as map
use Rattle.std.specs.FinMap.{get, insert, remove, empty}
use Rattle.trade_base.specs.Bytes.{with_bytes}
use Rattle.trade_base.specs.Page.{page_of}
use Rattle.own_model.specs.NatMap.{NatMap, picked}
use Rattle.own_model.specs.Account.{Account, charged, credited, opened, parted_with}
use Rattle.own_model.specs.Donation.{raised}
use Rattle.own_model.specs.OwnState.{zeros}
use Rattle.quota_core.specs.Books.{Books, IsOpen, coded_books, fresh_books, account_at, with_account, with_child, ram_limits, caps_limits}
use Rattle.quota_core.specs.Books.{IsChildOf, AreSiblings, HasNoChild, AreRelated, parent_at, with_moved, without_account}

-- a dataspace: the account that pays for it, and its bytes
pub record Space : Type 0 where
  pub payer : ℕ
  pub bytes : List ℕ

-- the books, the dataspaces by their keys, and how many of them there are places for
pub record Store : Type 0 where
  pub books : Books
  pub spaces : NatMap Space
  pub places : ℕ

-- a dataspace is stored as the pair of its fields
abbrev pub coded_space : Coded Space
coded_space =
    code_by (ℕ × List ℕ) (coded× coded_ℕ (coded_list coded_ℕ)) (λ s. (s.payer, s.bytes)) (λ p. record { payer = p.0; bytes = p.1 }) (λ _. refl)

-- a memory is stored as the tuple of its fields
abbrev pub coded_store : Coded Store
coded_store =
    code_by
    (Books × (NatMap Space × ℕ))
    (coded× coded_books (coded× (map.code coded_ℕ coded_space) coded_ℕ))
    (λ s. (s.books, (s.spaces, s.places)))
    (λ p. record { books = p.0; spaces = p.1.0; places = p.1.1 })
    (λ _. refl)

-- a memory that has just booted: one account, the root, which has all pages and capabilities, and no dataspace
abbrev pub fresh_store : ℕ → ℕ → ℕ → ℕ → ℕ → Store
fresh_store root pages caps accounts places =
    record { books = fresh_books root (pages * 4096) caps accounts; spaces = empty; places = places }

-- ---- the accounts of a memory

-- the accounts by their keys
abbrev pub accounts_in : Store → NatMap Account
accounts_in store = store.books.accounts

-- the parents' keys by the keys of their children
abbrev pub parents_in : Store → NatMap ℕ
parents_in store = store.books.parents

-- the root's key
abbrev pub root_in : Store → ℕ
root_in store = store.books.root

-- how many more accounts find a place
abbrev pub room_in : Store → ℕ
room_in store = store.books.room

-- how many dataspaces there are places for
abbrev pub places_in : Store → ℕ
places_in store = store.places

-- the account is open
abbrev pub IsOpenIn : Store → ℕ → Type 0
IsOpenIn store account = IsOpen store.books account

-- an account that is open, or one of nothing
abbrev pub account_in : Store → ℕ → Account
account_in store account = account_at store.books account

-- the memory with another account under a key
abbrev pub with_account_in : Store → ℕ → Account → Store
with_account_in store key account = record store { books = with_account store.books key account }

-- the memory with limits moved from the parent to a new account
abbrev pub with_child_in : Store → ℕ → ℕ → ℕ → ℕ → Store
with_child_in store parent child ram caps = record store { books = with_child store.books parent child ram caps }

-- the child was opened under this parent
abbrev pub IsChildIn : Store → ℕ → ℕ → Type 0
IsChildIn store child parent = IsChildOf store.books child parent

-- two different accounts were opened under one parent
abbrev pub AreSiblingsIn : Store → ℕ → ℕ → Type 0
AreSiblingsIn store one other = AreSiblings store.books one other

-- no account was opened under this one
abbrev pub IsLeafIn : Store → ℕ → Type 0
IsLeafIn store account = HasNoChild store.books account

-- a child and its parent are two accounts, and both are open
abbrev pub AreRelatedIn : Store → ℕ → ℕ → Type 0
AreRelatedIn store child parent = AreRelated store.books child parent

-- the account's parent, or the root where it has none
abbrev pub parent_in : Store → ℕ → ℕ
parent_in store account = parent_at store.books account

-- the memory with limits moved from one account to another
abbrev pub with_moved_in : Store → ℕ → ℕ → ℕ → ℕ → Store
with_moved_in store from to ram caps = record store { books = with_moved store.books from to ram caps }

-- the memory without an account, whose parent has its limits
abbrev pub without_account_in : Store → ℕ → Store
without_account_in store account = record store { books = without_account store.books account }

-- all limits of RAM, in bytes
abbrev pub ram_limits_in : Store → ℕ
ram_limits_in store = ram_limits store.books

-- all limits of capabilities
abbrev pub caps_limits_in : Store → ℕ
caps_limits_in store = caps_limits store.books

-- ---- the dataspaces of a memory

-- there is a dataspace under this key
abbrev pub Exists : Store → ℕ → Type 0
Exists store ds = IsSome (get store.spaces ds)

-- the dataspace under a key, or one of nothing
abbrev pub space_at : Store → ℕ → Space
space_at store ds = unwrap_or (get store.spaces ds) (record { payer = 0; bytes = [] })

-- an account is charged for a new dataspace of n bytes in whole pages, all zero
abbrev pub with_space : Store → ℕ → ℕ → ℕ → Store
with_space store ds payer n = record (with_account_in store payer (charged (account_in store payer) (page_of n) 1)) {
  spaces = insert store.spaces ds (record { payer = payer; bytes = zeros (page_of n) });
}

-- a dataspace is removed, and its payer is credited
abbrev pub without_space : Store → ℕ → Store
without_space store ds =
    let space = space_at store ds in
    record (with_account_in store space.payer (credited (account_in store space.payer) (length space.bytes) 1)) {
      spaces = remove store.spaces ds;
    }

-- a part put at an offset of a dataspace
abbrev pub with_bytes_at : Store → ℕ → ℕ → List ℕ → Store
with_bytes_at store ds offset part = record store {
  spaces = insert store.spaces ds (record { payer = (space_at store ds).payer; bytes = with_bytes (space_at store ds).bytes offset part });
}

-- ---- the part of one account

-- what one account is and pays for: the account, and the bytes of its dataspaces by their keys
pub record Part : Type 0 where
  pub account : Option Account
  pub spaces : NatMap (List ℕ)

-- the bytes of a dataspace that this account pays for
abbrev pub bytes_paid_by : ℕ → Space → Option (List ℕ)
bytes_paid_by account space = if space.payer == account then Some space.bytes else None

-- the part of an account
unfoldable pub part : ℕ → Store → Part
part account store = record {
  account = get store.books.accounts account;
  spaces = picked (bytes_paid_by account) store.spaces;
}

-- the account of a part, or one of nothing
abbrev pub account_of : Part → Account
account_of p = unwrap_or p.account (opened 0 0)

-- the bytes of a dataspace of a part, or none
abbrev pub bytes_of : Part → ℕ → List ℕ
bytes_of p ds = unwrap_or (get p.spaces ds) []

-- ---- what a call does to a part

-- its account is charged for a new dataspace of n bytes in whole pages, all zero
abbrev pub part_with_space : Part → ℕ → ℕ → Part
part_with_space p ds n =
    record { account = Some (charged (account_of p) (page_of n) 1); spaces = insert p.spaces ds (zeros (page_of n)) }

-- a dataspace is removed, and its account is credited
abbrev pub part_without_space : Part → ℕ → Part
part_without_space p ds =
    record { account = Some (credited (account_of p) (length (bytes_of p ds)) 1); spaces = remove p.spaces ds }

-- other bytes are put at an offset of a dataspace
abbrev pub part_with_bytes : Part → ℕ → ℕ → List ℕ → Part
part_with_bytes p ds offset bytes = record p { spaces = insert p.spaces ds (with_bytes (bytes_of p ds) offset bytes) }

-- its account is charged for so many capabilities that are no dataspace's
abbrev pub charged_part : Part → ℕ → Part
charged_part p caps = record p { account = Some (charged (account_of p) 0 caps) }

-- its account is credited with so many capabilities
abbrev pub credited_part : Part → ℕ → Part
credited_part p caps = record p { account = Some (credited (account_of p) 0 caps) }

-- its account parts with limits
abbrev pub parted_part : Part → ℕ → ℕ → Part
parted_part p ram caps = record p { account = Some (parted_with (account_of p) ram caps) }

-- its account is given limits
abbrev pub raised_part : Part → ℕ → ℕ → Part
raised_part p ram caps = record p { account = Some (raised (account_of p) ram caps) }

-- the part of an account that is opened with these limits: it pays for nothing
abbrev pub opened_part : ℕ → ℕ → Part
opened_part ram caps = record { account = Some (opened ram caps); spaces = empty }

-- the part of an account that isn't open
abbrev pub closed_part : Part
closed_part = record { account = None; spaces = empty }

-- the parts of all accounts other than two stay
abbrev pub OtherPartsStay : ℕ → ℕ → Store → Store → Type 0
OtherPartsStay one two old new = (other : ℕ) → other ≢ one → other ≢ two → part other new ≡ part other old

-- the dataspaces of an account stay, all but one of them
abbrev pub OtherSpacesStay : ℕ → ℕ → Store → Store → Type 0
OtherSpacesStay account ds old new = (k : ℕ) → k ≢ ds → get (part account new).spaces k ≡ get (part account old).spaces k

-- the dataspaces of an account stay as long as they were
abbrev pub LengthsStay : ℕ → Store → Store → Type 0
LengthsStay account old new = (k : ℕ) → option_map length (get (part account new).spaces k) ≡ option_map length (get (part account old).spaces k)

-- an account's part becomes this one; every other account's part stays, and so do the root's key, who is whose parent, and
-- the places for accounts
pub record PartBecomes (account : ℕ) (after : Part) (old new : Store) : Type 0 where
  pub own : part account new ≡ after
  pub others : (other : ℕ) → other ≢ account → part other new ≡ part other old
  pub root : root_in new ≡ root_in old
  pub parents : parents_in new ≡ parents_in old
  pub room : room_in new ≡ room_in old

-- a parent's account parts with limits, with which a new account is opened in one of the places; every other account's part
-- stays, and so does the root's key
pub record OpensPart (parent child ram caps : ℕ) (old new : Store) : Type 0 where
  pub opened_one : part child new ≡ opened_part ram caps
  pub parted_one : part parent new ≡ parted_part (part parent old) ram caps
  pub others : OtherPartsStay parent child old new
  pub root : root_in new ≡ root_in old
  pub parents : parents_in new ≡ insert (parents_in old) child parent
  pub room : room_in new + 1 ≡ room_in old

-- a parent's account parts with limits, and its child's is given them; every other account's part stays, and so do the root's
-- key, who is whose parent, and the places
pub record RaisesPart (parent child ram caps : ℕ) (old new : Store) : Type 0 where
  pub raised_one : part child new ≡ raised_part (part child old) ram caps
  pub parted_one : part parent new ≡ parted_part (part parent old) ram caps
  pub others : OtherPartsStay parent child old new
  pub root : root_in new ≡ root_in old
  pub parents : parents_in new ≡ parents_in old
  pub room : room_in new ≡ room_in old

-- one account parts with limits, and another is given them; all else stays, as where a parent's move to its child
abbrev pub ShiftsPart : ℕ → ℕ → ℕ → ℕ → Store → Store → Type 0
ShiftsPart from to ram caps old new = RaisesPart from to ram caps old new

-- an account goes, its parent's is given its limits, and its place is free again; every other account's part stays, and so
-- does the root's key
pub record ClosesPart (account parent : ℕ) (old new : Store) : Type 0 where
  pub closed_one : part account new ≡ closed_part
  pub raised_one : let limits = account_of (part account old) in
      part parent new ≡ raised_part (part parent old) limits.ram_limit limits.caps_limit
  pub others : OtherPartsStay account parent old new
  pub root : root_in new ≡ root_in old
  pub parents : parents_in new ≡ remove (parents_in old) account
  pub room : room_in new ≡ room_in old + 1
