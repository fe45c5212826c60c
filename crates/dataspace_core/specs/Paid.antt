-- How dataspaces are paid for. No public clause cites this module.
use Rattle.std.specs.Prelude.{◌≡◌, ℕ, min, ◌+◌, ◌*◌, ◌≤◌, List, Option, Some, length}
use Rattle.std.specs.FinMap.{get}
use Rattle.page_pool.specs.Pages.{free_count}
use Rattle.page_pool.specs.declared.pool.PageNo.{PageNo}
use Rattle.slab.specs.Slab.{Slab}
use Rattle.own_model.specs.NatMap.{NatMap, total, owed}
use Rattle.own_model.specs.Account.{Account, WithinLimits}
use Rattle.quota_core.specs.Books.{Books}
use Rattle.dataspace_core.specs.Store.{Store, Space, IsOpenIn, places_in, ram_limits_in, caps_limits_in}
use Rattle.dataspace_core.specs.Layout.{IsLaidOut, store_of}
use Rattle.dataspace_core.specs.declared.dataspace.Dataspace.{Dataspace}

-- the size of a dataspace in bytes
abbrev pub size_of : Space → ℕ
size_of space = length space.bytes

-- who pays for a dataspace
abbrev pub payer_of : Space → ℕ
payer_of space = space.payer

-- an account is within its limits, its use of RAM is that of its dataspaces, and its use of capabilities covers one for each
pub record IsPaying (spaces : NatMap Space) (account : ℕ) (a : Account) : Type 0 where
  pub within : WithinLimits a
  pub ram : owed size_of payer_of spaces account ≡ a.ram_used
  pub caps : owed (λ _. 1) payer_of spaces account ≤ a.caps_used

-- every dataspace has a page at least and an open account that pays for it, and the limits of all accounts are what the machine
-- has: so many pages, some of them free. There are places for as many dataspaces as the pages or the capabilities make
pub record IsPaid (store : Store) (free pages : ℕ) : Type 0 where
  pub payers : (ds : ℕ) (space : Space) → get store.spaces ds ≡ Some space → IsOpenIn store space.payer
  pub sized : (ds : ℕ) (space : Space) → get store.spaces ds ≡ Some space → 4096 ≤ size_of space
  pub paying : (account : ℕ) (a : Account) → get store.books.accounts account ≡ Some a → IsPaying store.spaces account a
  pub ram_limits : ram_limits_in store ≡ pages * 4096
  pub covered : min pages (caps_limits_in store) ≤ places_in store
  pub backed : free * 4096 + total size_of store.spaces ≡ pages * 4096
  pub few : pages ≤ 4096

-- what is true of a memory between calls: the table has an entry for each page that is taken, and room for one of each page
pub record IsSound (books : Books) (pool : List (Option (List ℕ))) (table : List PageNo) (room : ℕ) (spaces : Slab Dataspace) : Type 0 where
  pub laid_out : IsLaidOut pool table spaces
  pub paid : IsPaid (store_of books pool table spaces) (free_count pool) (length pool)
  pub counted : length table + free_count pool ≡ length pool
  pub roomy : room ≡ length pool
