-- What a service is asked for, and what it may rely on.
use Rattle.std.specs.Prelude.{◌≡◌, ℕ, ◌+◌, List, Option, None}
use Rattle.std.specs.FinMap.{len}
use Rattle.std.specs.List.{flat_map}
use Rattle.own_model.specs.Account.{Account}
use Rattle.own_model.specs.Reply.{log_text}
use Rattle.own_model.specs.Session.{Labelled, served, session_with, kept_of}
use Rattle.region_map.specs.Regions.{Regions}
use Rattle.dataspace_core.specs.Store.{Store, part, account_in, IsOpenIn}
use Rattle.dataspace_core.specs.Share.{Share}
use Rattle.sliced_heap.specs.Sliced.{sliced_of}
use Rattle.sliced_heap.specs.Heap.{IsSound, payer_of, share_at, MapsMemory}
use Rattle.sliced_heap.specs.declared.heap.SlicedHeap.{SlicedHeap}

-- what a request is answered, the text of the lines that it finished, and after it the session's account and value, and the
-- bytes of what it lends its client, if it lends anything
pub record Served (Value : Type 0) : Type 0 where
  pub text : List ℕ
  pub lines : List ℕ
  pub account : Account
  pub value : Value
  pub buffer : Option (List ℕ)

-- the step of a service that stores a session as the one-client model does: the state and the account are a session, which
-- serves the request; the place of its server does not matter
abbrev pub service_step : List ℕ → Account → Option (List ℕ) → Labelled → Served Labelled
service_step request account buffer kept =
    let o = served buffer (session_with 0 account kept) request in
    record {
      text = o.reply;
      lines = flat_map log_text o.lines;
      account = o.session.account;
      value = kept_of o.session;
      buffer = o.buffer;
    }

-- what an account has of the memory and of the map, for any limits and use
abbrev pub holding : Share → Share
holding share = record share { part = record share.part { account = None } }

-- that of the account under a key
abbrev pub holding_at : ℕ → Store → Regions → Share
holding_at account store regions = holding (share_at account store regions)

-- that of a heap's account
abbrev pub holding_of : SlicedHeap → Store → Regions → Share
holding_of heap store regions = holding_at (payer_of heap) store regions

-- all that an account has is blocks of its sliced heap: it has as many dataspaces as blocks
abbrev pub HasBlocksAlone : Share → Type 0
HasBlocksAlone share = len share.part.spaces ≡ len (sliced_of share)

-- an account is a session's: it is open, the map is one of the memory, and it uses a capability for each of its dataspaces
-- and one for the session itself
pub record IsSessionAccount (account : ℕ) (store : Store) (regions : Regions) : Type 0 where
  pub opens : IsOpenIn store account
  pub maps : MapsMemory store regions
  pub pays : (account_in store account).caps_used ≡ len (part account store).spaces + 1

-- each session is kept for the account that pays for it
abbrev pub PaysFor : {T : Type 0} → (T → ℕ → Share → Type 0) → (T → ℕ) → Type 0
PaysFor {T} kept payer = (state : T) (account : ℕ) (share : Share) → kept state account share → payer state ≡ account

-- a sliced heap is one of a session: it is sound, and its account uses a capability for each of its dataspaces and one for
-- the session itself
pub record IsSessionHeap (heap : SlicedHeap) (store : Store) (regions : Regions) : Type 0 where
  pub sound : IsSound heap store regions
  pub pays : (account_in store (payer_of heap)).caps_used ≡ len (part (payer_of heap) store).spaces + 1
