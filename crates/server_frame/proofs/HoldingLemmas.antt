-- What depends only on what an account has of the memory and of a map, whatever its limits and its use are.
use Rattle.std.proofs.Common.{◌≡◌, true≢false, ℕ, ◌+◌, ◌≤◌, Some, is_some, refl, sym, ap, subst, ◌∙◌, arith}
use Rattle.std.proofs.lemmas.Bool.Decides.{nat_tests}
use Rattle.std.proofs.lemmas.Option.{none-some}
use Rattle.std.specs.Prelude.{None, Result, Ok, Err, IfOk, OnOk}
use Rattle.std.specs.Result.{result_err}
use Rattle.std.specs.FinMap.{get, len, empty}
use Rattle.own_model.specs.Account.{Account, shortage}
use Rattle.own_model.proofs.NatMapLemmas.{same, get-empty, picked-empty}
use Rattle.own_model.specs.Sliced.{sliced_header}
use Rattle.own_model.specs.Moved.{moved_up}
use Rattle.own_model.proofs.NatMapMovedLemmas.{same_moved, get-moved_up, get-moved_up_below}
use Rattle.own_model.specs.NatMap.{picked}
use Rattle.region_map.specs.Regions.{Regions}
use Rattle.quota_core.specs.Books.{Books}
use Rattle.dataspace_core.specs.Store.{Store, part, account_in, IsOpenIn, ram_limits_in}
use Rattle.dataspace_core.specs.Share.{Share, share_in}
use Rattle.sliced_heap.specs.Sliced.{block_regions, payload_of, sliced_of, IsLinked}
use Rattle.sliced_heap.specs.Heap.{payer_of, share_at, blocks_at, MapsMemory, HasNoBlocks}
use Rattle.sliced_heap.specs.declared.heap.SlicedHeap.{SlicedHeap}
use Rattle.sliced_heap.proofs.ShareLemmas.{shown_block}
use Rattle.sliced_heap.proofs.LinkedLemmas.{alike_linked}
use Rattle.server_frame.specs.Session.{holding, holding_at, holding_of, IsSessionAccount, IsSessionHeap}

-- ---- results

-- what holds where a call is accepted, of one that isn't refused
pub on_ok : {X E : Type 0} {P : Type 0} (r : Result X E) → result_err r ≡ None → OnOk r P → P
on_ok (Ok x) none p = p
on_ok (Err e) none p = absurd (none-some e (sym none))

pub if_ok : {X E : Type 0} {P : X → Type 0} (r : Result X E) → result_err r ≡ None → IfOk r P → (x : X) × P x
if_ok (Ok x) none p = (x, p)
if_ok (Err e) none p = absurd (none-some e (sym none))

-- an account lacks nothing that it covers
pub lacks_nothing : (a : Account) (ram caps : ℕ) → a.ram_used + ram ≤ a.ram_limit → a.caps_used + caps ≤ a.caps_limit → shortage a ram caps ≡ None
lacks_nothing a ram caps enough_ram enough_caps = grind (arith, nat_tests)

-- ---- what an account has

module _ (account : ℕ) (old new : Store) (regions after : Regions) (held : holding (share_at account new after) ≡ holding (share_at account old regions)) where
  -- its dataspaces are the same
  pub spaces_held : (part account new).spaces ≡ (part account old).spaces
  unfolding share_in
  spaces_held = ap (λ (s : Share). s.part.spaces) held

  -- and its blocks are where they were
  pub blocks_held : block_regions (share_at account new after) ≡ block_regions (share_at account old regions)
  blocks_held = ap block_regions held

-- an account whose share is the same has the same part
pub same_part : (account : ℕ) (old new : Store) (regions after : Regions) → share_at account new after ≡ share_at account old regions → part account new ≡ part account old
unfolding share_in
same_part account old new regions after same_one = ap (λ (s : Share). s.part) same_one

-- an account stays a session's where it has the same and uses as many capabilities
pub account_held : (account : ℕ) (old new : Store) (regions after : Regions) → IsSessionAccount account old regions → IsOpenIn new account → MapsMemory new after →
    holding_at account new after ≡ holding_at account old regions → (account_in new account).caps_used ≡ (account_in old account).caps_used → IsSessionAccount account new after
account_held account old new regions after was opens maps held used = record {
  opens = opens;
  maps = maps;
  pays = used ∙ was.pays ∙ ap (λ m. len m + 1) (sym (spaces_held account old new regions after held));
}

-- ---- a session's heap

-- links don't hang on limits and use
pub linked_held : (share : Share) (first : ℕ) → IsLinked share first → IsLinked (holding share) first
linked_held share first linked = alike_linked share (holding share) first linked refl (λ s r block. refl)

module _ (heap : SlicedHeap) (store : Store) (regions : Regions) where
  -- a heap of a session is linked, and its account a session's
  pub heap_account : IsSessionHeap heap store regions → IsSessionAccount (payer_of heap) store regions
  heap_account session = record { opens = session.sound.opens; maps = session.sound.maps; pays = session.pays }

  pub heap_linked : IsSessionHeap heap store regions → IsLinked (holding_of heap store regions) heap.first
  heap_linked session = linked_held (share_at (payer_of heap) store regions) heap.first session.sound.linked

  -- and the other way round
  pub session_heap : IsSessionAccount (payer_of heap) store regions → IsLinked (holding_of heap store regions) heap.first → IsSessionHeap heap store regions
  session_heap account linked = record {
    sound = record {
      opens = account.opens;
      maps = account.maps;
      linked = alike_linked (holding_of heap store regions) (share_at (payer_of heap) store regions) heap.first linked refl (λ s r block. refl);
    };
    pays = account.pays;
  }

-- ---- a change of accounts

-- leaves what each has
pub books_held : (store : Store) (books : Books) (account : ℕ) (regions : Regions) → holding (share_at account (record store { books = books }) regions) ≡ holding (share_at account store regions)
unfolding part share_in
books_held store books account regions = refl

-- so does one that is told by an equation
pub held_by : (store new : Store) (books : Books) → new ≡ record store { books = books } → (account : ℕ) (regions : Regions) → holding (share_at account new regions) ≡ holding (share_at account store regions)
held_by store new books is account regions = ap (λ s. holding (share_at account s regions)) is ∙ books_held store books account regions

-- and a map of the memory stays one while all limits stay
pub maps_books : (store new : Store) (books : Books) (regions : Regions) → new ≡ record store { books = books } → ram_limits_in new ≡ ram_limits_in store → MapsMemory store regions → MapsMemory new regions
maps_books store new books regions is limits maps = subst (λ s. MapsMemory s regions) (sym is) (record {
  pages = maps.pages ∙ sym limits ∙ ap ram_limits_in is;
  most = maps.most;
  shown = maps.shown;
  once = maps.once;
})

-- ---- an account without dataspaces

module _ (account : ℕ) (store : Store) (regions : Regions) (none : (part account store).spaces ≡ empty) where
  -- has no block
  pub no_blocks : HasNoBlocks (share_at account store regions)
  no_blocks s = elim (get (block_regions (share_at account store regions)) s) as (λ o. get (block_regions (share_at account store regions)) s ≡ o → o ≡ None) [
    | None ↦ λ e. refl
    | Some r ↦ λ e. absurd (true≢false (sym (shown_block account store regions s r e).paid ∙ ap (λ m. is_some (get m r.of)) none ∙ ap is_some (get-empty r.of)))
  ] refl

  -- nor a payload of one
  pub no_payloads : blocks_at account store regions ≡ empty
  unfolding sliced_of
  no_payloads =
      let regions_none : block_regions (share_at account store regions) ≡ empty = same _ _ (λ q. no_blocks q ∙ sym (get-empty q)) in
      ap (moved_up sliced_header) (ap (picked (payload_of (share_at account store regions).part.spaces)) regions_none ∙ picked-empty (payload_of (share_at account store regions).part.spaces))
      ∙ same_moved sliced_header _ _ (λ q. get-moved_up sliced_header empty q ∙ get-empty q ∙ sym (get-empty (q + sliced_header))) (λ q low. get-moved_up_below sliced_header empty q low ∙ sym (get-empty q))
