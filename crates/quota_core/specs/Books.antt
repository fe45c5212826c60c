-- What a contract sees of the books.
use Rattle.std.specs.Prelude.{◌≡◌, ◌≢◌, ℕ, ⊤, ◌+◌, ◌-◌, ◌^◌, ◌<◌, Some, None, IsSome, Result, IfOk, OnOk, OnErr}
use Rattle.std.specs.Result.{result_err}
use Rattle.std.specs.Option.{unwrap_or}
use Rattle.std.proofs.Common.{refl}
use Rattle.std.specs.Coded.{Coded, code_by, coded×, coded_ℕ}
use Rattle.std.specs.FinMap as map
use Rattle.std.specs.FinMap.{get, insert, remove, empty}
use Rattle.trade_base.specs.declared.refusal.Refusal.{Refusal}
use Rattle.own_model.specs.NatMap.{NatMap, total}
use Rattle.own_model.specs.Account.{Account, coded_account, opened, parted_with, shortage}
use Rattle.own_model.specs.Donation.{raised}

-- the accounts by their keys, the parent's key of each but the root, the root's key, and how many more accounts find a place
pub record Books : Type 0 where
  pub accounts : NatMap Account
  pub parents : NatMap ℕ
  pub root : ℕ
  pub room : ℕ

-- books are stored as the tuple of their fields
abbrev pub coded_books : Coded Books
coded_books =
    code_by
    (NatMap Account × (NatMap ℕ × (ℕ × ℕ)))
    (coded× (map.code coded_ℕ coded_account) (coded× (map.code coded_ℕ coded_ℕ) (coded× coded_ℕ coded_ℕ)))
    (λ b. (b.accounts, (b.parents, (b.root, b.room))))
    (λ p. record { accounts = p.0; parents = p.1.0; root = p.1.1.0; room = p.1.1.1 })
    (λ _. refl)

-- the account is open
abbrev pub IsOpen : Books → ℕ → Type 0
IsOpen books account = IsSome (get books.accounts account)

-- an account that is open, or one of nothing
abbrev pub account_at : Books → ℕ → Account
account_at books account = unwrap_or (get books.accounts account) (opened 0 0)

-- the child was opened under this parent
abbrev pub IsChildOf : Books → ℕ → ℕ → Type 0
IsChildOf books child parent = get books.parents child ≡ Some parent

-- two different accounts were opened under one parent
pub record AreSiblings (books : Books) (one other : ℕ) : Type 0 where
  pub apart : one ≢ other
  pub child : IsSome (get books.parents one)
  pub same : get books.parents other ≡ get books.parents one

-- no account was opened under this one
abbrev pub HasNoChild : Books → ℕ → Type 0
HasNoChild books account = (other : ℕ) → get books.parents other ≢ Some account

-- the account's parent, or the root where it has none
abbrev pub parent_at : Books → ℕ → ℕ
parent_at books account = unwrap_or (get books.parents account) books.root

-- books of one account, the root, which has the whole machine, with so many places in all
abbrev pub fresh_books : ℕ → ℕ → ℕ → ℕ → Books
fresh_books root ram caps places =
    record { accounts = insert empty root (opened ram caps); parents = empty; root = root; room = places - 1 }

-- the books with another account under a key
abbrev pub with_account : Books → ℕ → Account → Books
with_account books key account = record books { accounts = insert books.accounts key account }

-- limits moved from the parent to a new account
abbrev pub with_child : Books → ℕ → ℕ → ℕ → ℕ → Books
with_child books parent child ram caps = record books {
  accounts = insert (insert books.accounts parent (parted_with (account_at books parent) ram caps)) child (opened ram caps);
  parents = insert books.parents child parent;
  room = books.room - 1;
}

-- limits moved from one account to another
abbrev pub with_moved : Books → ℕ → ℕ → ℕ → ℕ → Books
with_moved books from to ram caps = record books {
  accounts = insert (insert books.accounts from (parted_with (account_at books from) ram caps)) to (raised (account_at books to) ram caps);
}

-- an account is removed, and its parent has its limits
abbrev pub without_account : Books → ℕ → Books
without_account books account =
    let parent = parent_at books account in
    let limits = account_at books account in
    record books {
      accounts = insert (remove books.accounts account) parent (raised (account_at books parent) limits.ram_limit limits.caps_limit);
      parents = remove books.parents account;
      room = books.room + 1;
    }

-- all limits of RAM, in bytes
abbrev pub ram_limits : Books → ℕ
ram_limits books = total (λ a. a.ram_limit) books.accounts

-- all limits of capabilities
abbrev pub caps_limits : Books → ℕ
caps_limits books = total (λ a. a.caps_limit) books.accounts

-- limits were moved and none was made: all together are what they were
pub record KeepsLimits (old new : Books) : Type 0 where
  pub ram : ram_limits new ≡ ram_limits old
  pub caps : caps_limits new ≡ caps_limits old

-- a part of one account's limits is taken out if the account covers it, and is then in no account; where it doesn't,
-- nothing changes
pub record TakesOut (account ram caps : ℕ) (result : Result Account Refusal) (old new : Books) : Type 0 where
  pub refusal : result_err result ≡ shortage (account_at old account) ram caps
  pub ok : OnOk result (new ≡ with_account old account (parted_with (account_at old account) ram caps))
  pub part : IfOk result (λ part. part ≡ opened ram caps)
  pub err : OnErr result (new ≡ old)
  pub less_ram : IfOk result (λ part. ram_limits new + part.ram_limit ≡ ram_limits old)
  pub fewer_caps : IfOk result (λ part. caps_limits new + part.caps_limit ≡ caps_limits old)

-- so much of one account's limits is moved to another where the one covers it; where it doesn't, nothing changes
pub record Moves (from to ram caps : ℕ) (result : Result ⊤ Refusal) (old new : Books) : Type 0 where
  pub refusal : result_err result ≡ shortage (account_at old from) ram caps
  pub ok : OnOk result (new ≡ with_moved old from to ram caps)
  pub err : OnErr result (new ≡ old)
  pub limits : KeepsLimits old new

-- all limits together are a number of bytes in 64 bits and one of capabilities in 32
pub record HasFewLimits (books : Books) : Type 0 where
  pub ram : ram_limits books < 2 ^ 64
  pub caps : caps_limits books < 2 ^ 32

-- a child and its parent are two accounts, and both are open
pub record AreRelated (books : Books) (child parent : ℕ) : Type 0 where
  pub apart : parent ≢ child
  pub child_open : IsOpen books child
  pub parent_open : IsOpen books parent

-- the root is open and has no parent, each child and its parent are open, and all limits together are a number of bytes in
-- 64 bits and one of capabilities in 32
pub record AreSound (books : Books) : Type 0 where
  pub root : IsOpen books books.root
  pub first : get books.parents books.root ≡ None
  pub related : (child parent : ℕ) → IsChildOf books child parent → AreRelated books child parent
  pub ram : ram_limits books < 2 ^ 64
  pub caps : caps_limits books < 2 ^ 32
