-- A script's new and del are the model's.
use Rattle.std.proofs.Common.{◌≡◌, ℕ, ◌+◌, ◌*◌, ◌/◌, ◌<◌, ◌≤◌, true, false, cond, List, [], ◌∷◌, ◌++◌, get_or, length, Some, is_some, IsSome, refl, sym, ap, subst, ◌∙◌, arith}
use Rattle.std.proofs.Math.Seq.{get_or-append_seam}
use Rattle.std.proofs.lemmas.Bool.Decides.{nat_tests}
use Rattle.std.proofs.lemmas.Option.{same_Some}
use Rattle.std.specs.Prelude.{Option, None, if◌then◌else◌}
use Rattle.std.specs.FinMap.{get}
use Rattle.std.specs.Option.{unwrap_or}
use Rattle.trade_base.specs.Page.{page_of}
use Rattle.trade_base.specs.declared.refusal.Refusal.{Refusal}
use Rattle.trade_base.specs.declared.refusal.Refusal.TheVariants.{PageFault}
use Rattle.own_model.specs.Account.{Account, opened, charged, credited}
use Rattle.own_model.specs.BestFit.{Spot}
use Rattle.own_model.specs.Call.Call.{New, Del}
use Rattle.own_model.specs.Growth.{Growth, is_large, hole_for, growth_of, heap_refusal, new_hole}
use Rattle.own_model.specs.HeapStep.{with_chunk}
use Rattle.own_model.specs.HeapWindow.{heap_gap, largest_machine}
use Rattle.own_model.specs.OwnHeap.{OwnHeap, payload_start}
use Rattle.own_model.specs.OwnState.{OwnState}
use Rattle.own_model.specs.OwnStep.{refused, unless, newed, small_new, large_in, large_at, grown_in, grown_at, deleted, given_back, own_heap_gap, script_step}
use Rattle.own_model.specs.Region.{Region}
use Rattle.own_model.specs.Reply.Reply.{Attached, Done}
use Rattle.own_model.proofs.NatMapLemmas.{get-picked_at, some_of}
use Rattle.cap_space.specs.Space.{Space}
use Rattle.region_map.specs.Regions.{Regions}
use Rattle.dataspace_core.specs.Store.{Store, Part, part, account_in, account_of}
use Rattle.dataspace_core.specs.Share.{share_in, KeepsShares}
use Rattle.dataspace_core.proofs.PartLaws.{account_of-part}
use Rattle.heap_core.specs.declared.heap.Heap.{Heap}
use Rattle.heap_core.proofs.WordsLemmas.{length_keys}
use Rattle.heap_core.specs.Calls.{KeepsSpaces, AddsSpace, TakesSmall, TakesGrown, TakesLarge, GivesSmall, GivesLarge, Attaches, free_refusal, growth_at}
use Rattle.heap_core.specs.Heap.{payer_of as heap_payer, heap_at, heap_in, shape_in, keys_in, share_at, large_tag, large_regions, IsSound as IsSoundHeap}
use Rattle.pd_core.specs.Own.{Sessions, own_of, own_at}
use Rattle.pd_core.specs.Sound.{IsSoundScript}
use Rattle.pd_core.specs.declared.script.Script.{Script}
use Rattle.pd_core.proofs.HeapCallLemmas.{Owns, Ends, Alone, own_in, parts, finishes_parts}
use Rattle.pd_core.proofs.ScriptOwnLemmas.{all_sessions}
use Rattle.pd_core.specs.Does.{Does}
use Rattle.pd_core.proofs.SlicedLemmas.{same_gap}
use Rattle.pd_core.proofs.HeapChangeLemmas.{alone_in_place, alone_attached, alone_detached}

-- ---- the model's calls

module _ (s : OwnState) (n : ℕ) where
  -- a new that is refused
  new_refused : (refusal : Refusal) → Some refusal ≡ heap_refusal n s.heap.shape s.account → refused s refusal ≡ script_step (New n) s
  new_refused refusal is = ap (λ r. unless r s (newed n s)) is

  module _ (accepted : None ≡ heap_refusal n s.heap.shape s.account) where
    -- one that isn't is a large block
    large_is : (start : ℕ) → is_large n ≡ true → own_heap_gap (page_of n) s ≡ Some start → script_step (New n) s ≡ large_at n start s
    large_is start large gap =
        ap (λ r. unless r s (newed n s)) (sym accepted)
        ∙ ap (λ b. cond b (large_in n (own_heap_gap (page_of n) s) s) (small_new n (hole_for n s.heap.shape) s)) large ∙ ap (λ o. large_in n o s) gap

    -- or a block in the best hole
    small_is : (o : Option Spot) → is_large n ≡ false → hole_for n s.heap.shape ≡ o → script_step (New n) s ≡ small_new n o s
    small_is o small best =
        ap (λ r. unless r s (newed n s)) (sym accepted)
        ∙ ap (λ b. cond b (large_in n (own_heap_gap (page_of n) s) s) (small_new n (hole_for n s.heap.shape) s)) small ∙ ap (λ x. small_new n x s) best

    -- or one in a new chunk
    grown_is : (start : ℕ) → is_large n ≡ false → hole_for n s.heap.shape ≡ None → own_heap_gap (growth_of n s.heap.shape s.account).bytes s ≡ Some start →
        script_step (New n) s ≡ grown_at n (growth_of n s.heap.shape s.account) start s
    grown_is start small none gap = small_is None small none ∙ ap (λ x. grown_in n (growth_of n s.heap.shape s.account) x s) gap

-- a del of what is no payload is refused
del_refused : (s : OwnState) (address : ℕ) (refusal : Refusal) (o : Option (List ℕ)) → Some refusal ≡ (if is_some o then None else Some PageFault) → refused s refusal ≡ deleted address o s
del_refused s address refusal None is = let e : refusal ≡ PageFault = cc in ap (refused s) e
del_refused s address refusal (Some payload) is = cc

-- and one of a payload isn't
payload_there : (o : Option (List ℕ)) → None ≡ (if is_some o then None else Some PageFault) → IsSome o
payload_there None is = cc
payload_there (Some payload) is = refl

-- where the payload in a new chunk starts
grown_start : (heap : OwnHeap) (growth : Growth) (start : ℕ) → length heap.starts ≡ length heap.shape.chunks → payload_start (with_chunk growth start heap) (new_hole growth heap.shape) ≡ start + 16
grown_start heap growth start e =
    let at = get_or-append_seam heap.starts start [] 0 in
    let here = subst (λ k. get_or (heap.starts ++ start ∷ []) k 0 ≡ start) e at in
    omega (arith, here)

-- ---- the calls of the heap

module _ {store : Store} {space : Space} {regions : Regions} {heap : Heap} (o : Owns (heap_payer heap) store space regions heap) where
  -- the account, its part, and its own state
  abbrev a : ℕ
  a = heap_payer heap

  abbrev p : Part
  p = part a store

  abbrev before : Sessions → OwnState
  before sessions = own_in sessions a store space regions heap

  -- the heap's shape is that of the own state's
  shape_is : (heap_at heap store regions).shape ≡ shape_in heap p
  unfolding heap_in share_in
  shape_is = refl

  -- so what refuses a block of the heap refuses it in the own state
  refusal_is : (sessions : Sessions) (n : ℕ) → heap_refusal n (shape_in heap p) (account_in store a) ≡ heap_refusal n (before sessions).heap.shape (before sessions).account
  unfolding own_of
  refusal_is sessions n = ap (λ x. heap_refusal n (shape_in heap p) x) (sym (account_of-part a store)) ∙ ap (λ x. heap_refusal n x (account_of p)) (sym shape_is)

  -- what the heap refuses, a new is refused
  pub new_is_refused : (sessions : Sessions) (n : ℕ) (refusal : Refusal) → Some refusal ≡ heap_refusal n (shape_in heap p) (account_in store a) → refused (before sessions) refusal ≡ script_step (New n) (before sessions)
  new_is_refused sessions n refusal is = new_refused (before sessions) n refusal (is ∙ refusal_is sessions n)

  -- and so is a del
  pub del_is_refused : (sessions : Sessions) (address : ℕ) (refusal : Refusal) → Some refusal ≡ free_refusal (heap_at heap store regions) address → refused (before sessions) refusal ≡ script_step (Del address) (before sessions)
  unfolding own_of
  del_is_refused sessions address refusal is = del_refused (before sessions) address refusal (get (heap_at heap store regions).payloads address) is

  module _ {store' : Store} {after : Regions} {heap' : Heap} (sound : IsSoundHeap heap' store' after) (payer : heap_payer heap' ≡ heap_payer heap)
      (shares : KeepsShares a store store' regions.heap regions.tags after.heap after.tags) where
    -- what is so of a map is so of the same map
    in_place : after ≡ regions → (part a store').account ≡ p.account → KeepsSpaces heap store store' → Alone a store space regions heap store' after heap'
    in_place same account spaces =
        subst (λ r. Alone a store space regions heap store' r heap') (sym same)
        (alone_in_place o store' payer (subst (IsSoundHeap heap' store') same sound)
        (subst (λ r. KeepsShares a store store' regions.heap regions.tags r.heap r.tags) same shares) account spaces)

    with_region : (ds bytes tag start : ℕ) → tag ≤ large_tag → Attaches heap ds bytes tag start store store' regions after → AddsSpace heap ds store store' → Alone a store space regions heap store' after heap'
    with_region ds bytes tag start low attaches spaces =
        let same = attaches.attached in
        subst (λ r. Alone a store space regions heap store' r heap') (sym same)
        (alone_attached o store' payer ds bytes tag start low (subst (IsSoundHeap heap' store') same sound)
        (subst (λ r. KeepsShares a store store' regions.heap regions.tags r.heap r.tags) same shares)
        (subst (Attaches heap ds bytes tag start store store' regions) same attaches) spaces)

    -- ---- new

    module _ (gaps : (sessions : Sessions) (bytes : ℕ) → own_heap_gap bytes (before sessions) ≡ heap_gap largest_machine regions.heap (bytes / 4096))
        (n address : ℕ) (accepted : None ≡ heap_refusal n (shape_in heap p) (account_in store a)) where
      -- a large block
      large_ends : is_large n ≡ true → TakesLarge heap heap' n address store store' regions after → Ends a (New n) (Attached address) store space regions heap store' after heap'
      unfolding own_of
      large_ends large takes =
          let alone = with_region takes.ds (page_of n) large_tag address (omega arith) takes.attaches takes.spaces in
          let charge : charged (account_of p) (page_of n) 1 ≡ account_of (part a store')
          = ap (λ x. charged x (page_of n) 1) (account_of-part a store) ∙ sym (ap (λ (x : Option Account). unwrap_or x (opened 0 0)) takes.attaches.charge) in
          record {
            alone = alone;
            steps = λ sessions.
                large_is (before sessions) n (accepted ∙ refusal_is sessions n) address large (gaps sessions (page_of n) ∙ takes.attaches.lowest)
                ∙ (λ i. record { reply = Attached address; lines = []; next = record (before sessions) { account = charge i; heap = sym takes.value i } });
          }

      -- a block in a hole
      small_ends : (hole : Spot) → is_large n ≡ false → hole_for n (shape_in heap p) ≡ Some hole → TakesSmall heap heap' n hole address store store' regions after →
          Ends a (New n) (Attached address) store space regions heap store' after heap'
      unfolding own_of
      small_ends hole small best takes =
          let alone = in_place takes.map takes.account takes.spaces in
          let account : account_of p ≡ account_of (part a store') = ap (λ (x : Option Account). unwrap_or x (opened 0 0)) (sym takes.account) in
          record {
            alone = alone;
            steps = λ sessions.
                small_is (before sessions) n (accepted ∙ refusal_is sessions n) (Some hole) small (ap (hole_for n) shape_is ∙ best)
                ∙ (λ i. record { reply = Attached (sym takes.at i); lines = []; next = record (before sessions) { account = account i; heap = sym takes.value i } });
          }

      -- a block in a new chunk
      grown_ends : is_large n ≡ false → hole_for n (shape_in heap p) ≡ None → TakesGrown heap heap' n address store store' regions after →
          Ends a (New n) (Attached address) store space regions heap store' after heap'
      unfolding own_of
      grown_ends small none takes =
          let few = o.sound.laid.few in
          let alone = with_region takes.ds (growth_at n heap store).bytes (length (keys_in heap)) takes.start (omega (arith, few, length_keys heap.chunks.items)) takes.attaches takes.spaces in
          let h = heap_at heap store regions in
          let growth : growth_of n h.shape (account_of p) ≡ growth_at n heap store
          = ap (λ x. growth_of n x (account_of p)) shape_is ∙ ap (growth_of n (shape_in heap p)) (account_of-part a store) in
          let charge : charged (account_of p) (growth_at n heap store).bytes 1 ≡ account_of (part a store')
          = ap (λ x. charged x (growth_at n heap store).bytes 1) (account_of-part a store) ∙ sym (ap (λ (x : Option Account). unwrap_or x (opened 0 0)) takes.attaches.charge) in
          record {
            alone = alone;
            steps = λ sessions.
                let at = grown_start h (growth_at n heap store) takes.start (o.own.lawful all_sessions (λ q server session there. refl)).sound.heap_parts.starts ∙ sym takes.at in
                grown_is (before sessions) n (accepted ∙ refusal_is sessions n) takes.start small (ap (hole_for n) shape_is ∙ none)
                (ap (λ (g : Growth). own_heap_gap g.bytes (before sessions)) growth ∙ gaps sessions (growth_at n heap store).bytes ∙ takes.attaches.lowest)
                ∙ ap (λ g. grown_at n g takes.start (before sessions)) growth
                ∙ (λ i. record { reply = Attached (at i); lines = []; next = record (before sessions) { account = charge i; heap = sym takes.value i } });
          }

      -- so a block that the heap takes is the model's
      pub new_ends : (65536 ≤ n → TakesLarge heap heap' n address store store' regions after) →
          ((hole : Spot) → n < 65536 → hole_for n (shape_in heap p) ≡ Some hole → TakesSmall heap heap' n hole address store store' regions after) →
          (n < 65536 → hole_for n (shape_in heap p) ≡ None → TakesGrown heap heap' n address store store' regions after) →
          Ends a (New n) (Attached address) store space regions heap store' after heap'
      new_ends large small grown = elim (is_large n) as (λ b. is_large n ≡ b → Ends a (New n) (Attached address) store space regions heap store' after heap') [
        | true ↦ λ e. large_ends e (large (grind (arith, nat_tests)))
        | false ↦ λ e. let below : n < 65536 = grind (arith, nat_tests) in
            elim (hole_for n (shape_in heap p)) as (λ x. hole_for n (shape_in heap p) ≡ x → Ends a (New n) (Attached address) store space regions heap store' after heap') [
              | Some hole ↦ λ best. small_ends hole e best (small hole below best)
              | None ↦ λ none. grown_ends e none (grown below none)
            ] refl
      ] refl

    -- ---- del

    module _ (address : ℕ) (accepted : None ≡ free_refusal (heap_at heap store regions) address) where
      -- the payload that starts there
      payload : (bytes : List ℕ) × (get (heap_at heap store regions).payloads address ≡ Some bytes)
      payload = some_of (get (heap_at heap store regions).payloads address) (payload_there (get (heap_at heap store regions).payloads address) accepted)

      -- a block of a chunk
      small_given : get (heap_at heap store regions).large address ≡ None → GivesSmall heap heap' address store store' regions after → Ends a (Del address) Done store space regions heap store' after heap'
      unfolding own_of
      small_given none gives =
          let alone = in_place gives.map gives.account gives.spaces in
          let account : account_of p ≡ account_of (part a store') = ap (λ (x : Option Account). unwrap_or x (opened 0 0)) (sym gives.account) in
          record {
            alone = alone;
            steps = λ sessions.
                ap (λ x. deleted address x (before sessions)) payload.1 ∙ ap (λ x. given_back address x (before sessions)) none
                ∙ (λ i. record { reply = Done; lines = []; next = record (before sessions) { account = account i; heap = sym gives.value i } });
          }

      -- the bytes of a large block are those of its region's pages
      large_size : (size ds pages : ℕ) → get (heap_at heap store regions).large address ≡ Some size → get (large_regions (share_at a store regions)) address ≡ Some (record { of = ds; pages = pages }) → size ≡ pages * 4096
      unfolding heap_in
      large_size size ds pages there region =
          same_Some size (pages * 4096) (sym there ∙ get-picked_at (λ (r : Region). Some (r.pages * 4096)) (large_regions (share_at a store regions)) address (record { of = ds; pages = pages }) region)

      -- a large one
      large_given : (size : ℕ) → get (heap_at heap store regions).large address ≡ Some size → GivesLarge heap heap' address store store' regions after → Ends a (Del address) Done store space regions heap store' after heap'
      unfolding own_of
      large_given size there gives =
          let same = gives.detached in
          let bytes = large_size size gives.ds gives.pages there gives.region in
          let alone : Alone a store space regions heap store' after heap' = subst (λ r. Alone a store space regions heap store' r heap') (sym same)
          (alone_detached o store' payer gives.ds gives.pages (gives.pages * 4096) address gives.region (subst (IsSoundHeap heap' store') same sound)
          (subst (λ r. KeepsShares a store store' regions.heap regions.tags r.heap r.tags) same shares) gives.charge gives.others gives.count) in
          let credit : credited (account_of p) size 1 ≡ account_of (part a store')
          = ap (λ x. credited (account_of p) x 1) bytes ∙ ap (λ x. credited x (gives.pages * 4096) 1) (account_of-part a store) ∙ sym (ap (λ (x : Option Account). unwrap_or x (opened 0 0)) gives.charge) in
          record {
            alone = alone;
            steps = λ sessions.
                ap (λ x. deleted address x (before sessions)) payload.1 ∙ ap (λ x. given_back address x (before sessions)) there
                ∙ (λ i. record { reply = Done; lines = []; next = record (before sessions) { account = credit i; heap = sym gives.value i } });
          }

      -- so a block that the heap gives back is the model's
      pub del_ends : (get (heap_at heap store regions).large address ≡ None → GivesSmall heap heap' address store store' regions after) →
          ((size : ℕ) → get (heap_at heap store regions).large address ≡ Some size → GivesLarge heap heap' address store store' regions after) →
          Ends a (Del address) Done store space regions heap store' after heap'
      del_ends small large = elim (get (heap_at heap store regions).large address) as (λ x. get (heap_at heap store regions).large address ≡ x → Ends a (Del address) Done store space regions heap store' after heap') [
        | None ↦ λ none. small_given none (small none)
        | Some size ↦ λ there. large_given size there (large size there)
      ] refl

-- ---- of a script

module _ (store : Store) (script : Script) (sound : IsSoundScript store script) where
  -- what the heap refuses, a new is refused
  pub new_refuses : (n : ℕ) (refusal : Refusal) → Some refusal ≡ heap_refusal n (shape_in script.heap (part (heap_payer script.heap) store)) (account_in store (heap_payer script.heap)) →
      (sessions : Sessions) → refused (own_at sessions store script) refusal ≡ script_step (New n) (own_at sessions store script)
  new_refuses n refusal is sessions =
      subst (λ x. refused (own_in sessions x store script.caps script.regions script.heap) refusal ≡ script_step (New n) (own_in sessions x store script.caps script.regions script.heap)) sound.heaps.heap_pays
      (new_is_refused (parts store script sound) sessions n refusal is)

  -- and so is a del
  pub del_refuses : (address : ℕ) (refusal : Refusal) → Some refusal ≡ free_refusal (heap_at script.heap store script.regions) address →
      (sessions : Sessions) → refused (own_at sessions store script) refusal ≡ script_step (Del address) (own_at sessions store script)
  del_refuses address refusal is sessions =
      subst (λ x. refused (own_in sessions x store script.caps script.regions script.heap) refusal ≡ script_step (Del address) (own_in sessions x store script.caps script.regions script.heap)) sound.heaps.heap_pays
      (del_is_refused (parts store script sound) sessions address refusal is)

  -- the gaps of its own state are the map's
  gaps : (sessions : Sessions) (bytes : ℕ) → own_heap_gap bytes (own_in sessions (heap_payer script.heap) store script.caps script.regions script.heap) ≡ heap_gap largest_machine script.regions.heap (bytes / 4096)
  gaps sessions bytes =
      subst (λ x. own_heap_gap bytes (own_in sessions x store script.caps script.regions script.heap) ≡ heap_gap largest_machine script.regions.heap (bytes / 4096)) (sym sound.heaps.heap_pays)
      (same_gap store script sound sessions bytes)

  module _ {store' : Store} {after : Regions} {heap' : Heap} (sound' : IsSoundHeap heap' store' after) (payer : heap_payer heap' ≡ heap_payer script.heap)
      (shares : KeepsShares (heap_payer script.heap) store store' script.regions.heap script.regions.tags after.heap after.tags) where
    -- a block that the heap takes is the model's
    pub new_finishes : (n address : ℕ) → None ≡ heap_refusal n (shape_in script.heap (part (heap_payer script.heap) store)) (account_in store (heap_payer script.heap)) →
        (65536 ≤ n → TakesLarge script.heap heap' n address store store' script.regions after) →
        ((hole : Spot) → n < 65536 → hole_for n (shape_in script.heap (part (heap_payer script.heap) store)) ≡ Some hole → TakesSmall script.heap heap' n hole address store store' script.regions after) →
        (n < 65536 → hole_for n (shape_in script.heap (part (heap_payer script.heap) store)) ≡ None → TakesGrown script.heap heap' n address store store' script.regions after) →
        Does (New n) (Attached address) store script store' (record script { regions = after; heap = heap' })
    new_finishes n address accepted large small grown =
        finishes_parts store script sound (new_ends (parts store script sound) sound' payer shares gaps n address accepted large small grown)

    -- and one that it gives back
    pub del_finishes : (address : ℕ) → None ≡ free_refusal (heap_at script.heap store script.regions) address →
        (get (heap_at script.heap store script.regions).large address ≡ None → GivesSmall script.heap heap' address store store' script.regions after) →
        ((size : ℕ) → get (heap_at script.heap store script.regions).large address ≡ Some size → GivesLarge script.heap heap' address store store' script.regions after) →
        Does (Del address) Done store script store' (record script { regions = after; heap = heap' })
    del_finishes address accepted small large =
        finishes_parts store script sound (del_ends (parts store script sound) sound' payer shares address accepted small large)
