-- The buffer that a session lends its client: a dataspace of the session's account.
use Rattle.std.specs.Prelude.{◌≡◌, ℕ, List, length, Option, Some, None, IsSome}
use Rattle.std.specs.Option.{option_map}
use Rattle.std.specs.FinMap.{get, insert}
use Rattle.trade_base.specs.declared.id.DsId.{DsId}
use Rattle.dataspace_core.specs.Store.{Store, space_at, bytes_of}
use Rattle.dataspace_core.specs.Share.{Share}
use Rattle.sliced_heap.specs.Heap.{IsNoBlock}
use Rattle.server_frame.specs.declared.effect.Effect.{Effect}
use Rattle.server_frame.specs.declared.effect.Effect.TheVariants.{Nothing, Buffer, Gone}

-- the key of a dataspace, if there is one
abbrev pub key_of : Option DsId → Option ℕ
key_of lent = option_map (λ (ds : DsId). ds.0) lent

-- the bytes of what is lent, if anything is
abbrev pub bytes_lent : Store → Option ℕ → Option (List ℕ)
bytes_lent store lent = option_map (λ ds. (space_at store ds).bytes) lent

-- the effect of a request, by the buffers of the session before and after it
abbrev pub IsEffect : Effect → Option ℕ → Option ℕ → Type 0
IsEffect Nothing before after = after ≡ before
IsEffect (Buffer ds) before after = (before ≡ None) × (after ≡ Some ds.0)
IsEffect (Gone ds) before after = (before ≡ Some ds.0) × (after ≡ None)

-- ---- writes of its client

-- what an account has, with other bytes in one of its dataspaces
abbrev pub share_with : ℕ → List ℕ → Share → Share
share_with ds bytes share = record share { part = record share.part { spaces = insert share.part.spaces ds bytes } }

-- a session's buffer is a dataspace of its account and no sliced block. Neither what the session is to its client nor what
-- is true of it depends on the buffer's bytes, if their number is the same
pub record LendsAside {T V : Type 0} (kept : T → ℕ → Share → Type 0) (value : T → Share → V) (state : T) (account : ℕ) (share : Share) (ds : ℕ) : Type 0 where
  pub paid : IsSome (get share.part.spaces ds)
  pub no_block : IsNoBlock share ds
  pub kept_still : (bytes : List ℕ) → length bytes ≡ length (bytes_of share.part ds) → kept state account (share_with ds bytes share)
  pub value_same : (bytes : List ℕ) → length bytes ≡ length (bytes_of share.part ds) → value state (share_with ds bytes share) ≡ value state share

-- all buffers of the sessions of a service are of this kind
abbrev pub AllLendAside : {T V : Type 0} → (T → ℕ → Share → Type 0) → (T → Share → V) → (T → Option ℕ) → Type 0
AllLendAside {T} kept value buffer =
    (state : T) (account : ℕ) (share : Share) (ds : ℕ) → kept state account share → buffer state ≡ Some ds → LendsAside kept value state account share ds
