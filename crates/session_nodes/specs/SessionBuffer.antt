-- The buffer that a session shares with its client: a dataspace of the session's account, attached in the server's heap
-- window.
use Rattle.std.specs.Prelude.{◌≡◌, ℕ, List, length, Option, Some, None, Result, Ok, Err}
use Rattle.std.specs.Option.{option_map}
use Rattle.std.specs.FinMap.{insert, empty}
use Rattle.trade_base.specs.Bytes.{with_bytes}
use Rattle.trade_base.specs.Page.{page_of}
use Rattle.trade_base.specs.declared.id.DsId.{DsId}
use Rattle.own_model.specs.Account.{charged, credited}
use Rattle.own_model.specs.Zeros.{zeros}
use Rattle.dataspace_core.specs.Share.{Share}
use Rattle.dataspace_core.specs.Store.{Store, space_at, account_in}
use Rattle.core_calls.specs.declared.file_error.FileError.{FileError}
use Rattle.server_frame.specs.declared.effect.Effect.{Effect}
use Rattle.session_nodes.specs.SoundHeaps.{Stock, IsShare, lent_regions}
use Rattle.session_nodes.specs.declared.session_buffer.SessionBuffer.{SessionBuffer}

-- the key of its dataspace
abbrev pub buffer_key : Option SessionBuffer → Option ℕ
buffer_key lent = option_map (λ (l : SessionBuffer). l.space.0) lent

-- ---- its place

-- the one region of no heap that the account has shows it
pub record IsBufferAt (lent : SessionBuffer) (share : Share) : Type 0 where
  pub possible : IsShare share
  pub pages : ℕ
  pub region : lent_regions share ≡ insert empty lent.start (record { of = lent.space.0; pages = pages })

-- the buffer of a session is there, and otherwise no region of no heap
abbrev pub HasBuffer : Option SessionBuffer → Share → Type 0
HasBuffer None share = lent_regions share ≡ empty
HasBuffer (Some lent) share = IsBufferAt lent share

-- so it does between requests
abbrev pub KeepsBuffer : Option SessionBuffer → Share → Type 0
KeepsBuffer None share = IsShare share → lent_regions share ≡ empty
KeepsBuffer (Some lent) share = IsBufferAt lent share

-- ---- what calls do

-- a buffer of n bytes in whole pages, all zero, is allocated and charged
pub record TakesBuffer (n : ℕ) (lent : SessionBuffer) (old new : Stock) (share : Share) (store : Store) : Type 0 where
  pub stock : new ≡ record old { account = charged old.account (page_of n) 1 }
  pub stands : IsBufferAt lent share
  pub zero : (space_at store lent.space.0).bytes ≡ zeros (page_of n)

-- bytes overwrite the buffer from a place on, and nothing else changes
pub record FillsBuffer (lent : SessionBuffer) (place : ℕ) (bytes : List ℕ) (old new : Stock) (share : Share) (store after : Store) : Type 0 where
  pub stock : new ≡ old
  pub stands : IsBufferAt lent share
  pub filled : (space_at after lent.space.0).bytes ≡ with_bytes (space_at store lent.space.0).bytes place bytes

-- an account's limits are unchanged
pub record KeepsLimits (account : ℕ) (old new : Store) : Type 0 where
  pub ram : (account_in new account).ram_limit ≡ (account_in old account).ram_limit
  pub caps : (account_in new account).caps_limit ≡ (account_in old account).caps_limit

-- the buffer is freed and credited
pub record GivesBuffer (lent : SessionBuffer) (old new : Stock) (share : Share) (store : Store) : Type 0 where
  pub stock : new ≡ record old { account = credited old.account (length (space_at store lent.space.0).bytes) 1 }
  pub none : lent_regions share ≡ empty

-- ---- what requests do

-- a buffer of n bytes is created, with this dataspace
pub record LendsBuffer (n : ℕ) (space : DsId) (later : Option SessionBuffer) (old new : Stock) (share : Share) (store : Store) : Type 0 where
  pub lent : SessionBuffer
  pub later_is : later ≡ Some lent
  pub space_is : lent.space ≡ space
  pub taken : TakesBuffer n lent old new share store

-- the buffer is freed, which had this dataspace
pub record FreesBuffer (space : DsId) (was later : Option SessionBuffer) (old new : Stock) (share : Share) (store : Store) : Type 0 where
  pub lent : SessionBuffer
  pub was_is : was ≡ Some lent
  pub later_is : later ≡ None
  pub space_is : lent.space ≡ space
  pub given : GivesBuffer lent old new share store

-- the effect of a created buffer, and that of a freed one
abbrev pub lent_effect : Result DsId FileError → Effect
lent_effect (Ok space) = Effect.Buffer space
lent_effect (Err e) = Effect.Nothing

abbrev pub gone_effect : Result DsId FileError → Effect
gone_effect (Ok space) = Effect.Gone space
gone_effect (Err e) = Effect.Nothing
