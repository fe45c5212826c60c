-- A script's heaps end one after the other, and then its account uses nothing and closes.
use Rattle.std.proofs.Common.{◌≡◌, ◌≢◌, ℕ, ◌*◌, Option, Some, None, is_some, IsSome, unwrap_or, refl, sym, ap, subst, ◌∙◌, arith, inl, inr}
use Rattle.std.proofs.lemmas.Option.{none-some}
use Rattle.std.specs.FinMap.{get, len}
use Rattle.trade_base.specs.declared.id.AccountId.{AccountId}
use Rattle.own_model.specs.Account.{Account, opened, credited}
use Rattle.own_model.specs.HeapWindow.{heap_low, heap_high}
use Rattle.own_model.specs.NatMap.{NatMap, total}
use Rattle.own_model.specs.Region.{Region}
use Rattle.own_model.specs.Sliced.{block_size}
use Rattle.own_model.specs.Use.{heap_count, heap_size, object_caps}
use Rattle.own_model.proofs.RegionApartLemmas.{LieApart-fewer}
use Rattle.own_model.proofs.NatMapLemmas.{none_at, some_of, value_at, before_remove, get-remove_other}
use Rattle.own_model.proofs.Totals.{total_same, total-zero, total-insert_same}
use Rattle.region_map.specs.Regions.{Regions}
use Rattle.dataspace_core.specs.Store.{Store, Part, part, account_of, account_in, accounts_in, root_in, parents_in, parent_in, caps_limits_in, IsOpenIn, IsChildIn, IsLeafIn, AreRelatedIn, PartBecomes, ClosesPart}
use Rattle.dataspace_core.specs.Share.{Share, share_in, KeepsShares}
use Rattle.dataspace_core.proofs.LimitLaws.{accounts_after}
use Rattle.dataspace_core.proofs.PartLaws.{account_of-part, open_in_part, part_open}
use Rattle.heap_core.specs.declared.heap.Heap.{Heap}
use Rattle.heap_core.specs.Calls.{GivesAll as GivesAllOfHeap}
use Rattle.heap_core.specs.Heap.{payer_of as heap_payer, heap_at, IsSound as IsSoundHeap}
use Rattle.heap_core.specs.Theorems.{HeapStays}
use Rattle.sliced_heap.specs.declared.heap.SlicedHeap.{SlicedHeap}
use Rattle.sliced_heap.specs.Heap.{payer_of, share_at, IsSound as IsSoundSliced, KeepsOthers, GivesAll}
use Rattle.sliced_heap.specs.Sliced.{block_regions}
use Rattle.sliced_heap.proofs.ShareLemmas.{shown_block}
use Rattle.pd_core.specs.declared.script.Script.{Script}
use Rattle.pd_core.specs.Own.{own_of, own_at, own_heap_at, part_at, sliced_at}
use Rattle.pd_core.specs.Component.{IsOwnReserve}
use Rattle.pd_core.specs.Exit.{ClosesBoth}
use Rattle.pd_core.specs.Release.{IsCleared}
use Rattle.pd_core.specs.Sound.{IsSoundScript, OthersStay, Keeps}
use Rattle.sliced_heap.proofs.BesideLemmas.{standing, none_standing, sliced_standing, elsewhere_standing}
use Rattle.pd_core.proofs.ScriptOwnLemmas.{all_sessions, selects}
use Rattle.pd_core.proofs.SlicedLemmas.{LeavesHeap, heap_beside, parts_stay}

module _ (store : Store) (script : Script) (sound : IsSoundScript store script) where
  -- ---- the sliced heap ends

  module _ {mid : Store} {after : Regions} {sliced' : SlicedHeap} (left : IsSoundSliced sliced' mid after) (pays : payer_of sliced' ≡ payer_of script.sliced)
      (others : KeepsOthers (payer_of script.sliced) store mid script.regions after) (given_by : GivesAll (payer_of script.sliced) store mid script.regions after) where
    -- the blocks were the script's
    given : GivesAll script.account.0 store mid script.regions after
    given = subst (λ a. GivesAll a store mid script.regions after) sound.heaps.sliced_pays given_by

    -- a heap region that is left was there, and was no block's
    was_there : (s : ℕ) (r : Region) → get after.heap s ≡ Some r → (get script.regions.heap s ≡ Some r) × (get (block_regions (share_at script.account.0 store script.regions)) s ≡ None)
    was_there s r at =
        let blocks = block_regions (share_at script.account.0 store script.regions) in
        elim (get blocks s) as (λ o. get blocks s ≡ o → (get script.regions.heap s ≡ Some r) × (get blocks s ≡ None)) [
          | None ↦ λ none. (sym (given.kept s none).0 ∙ at, none)
          | Some q ↦ λ one. absurd (none-some r (sym (given.gone s q one) ∙ at))
        ] refl

    -- so it is a chunk's or a large block's, and these stand where they stood
    leaves : LeavesHeap store script mid after
    leaves =
        let blocks = block_regions (share_at script.account.0 store script.regions) in
        let heap = script.regions.heap in record {
          lie = LieApart-fewer heap_low (heap_high script.regions.pages) heap after.heap (λ s r at. (was_there s r at).0) sound.heaps.heap.window.lie;
          beside = λ s. elim (get blocks s) as (λ o. get blocks s ≡ o → standing after.heap after.tags s ≡ standing heap script.regions.tags s) [
            | None ↦ λ none. let same = given.kept s none in elsewhere_standing heap after.heap script.regions.tags after.tags s same.0 same.1
            | Some q ↦ λ one.
                let is = shown_block script.account.0 store script.regions s q one in
                none_standing after.heap after.tags s (given.gone s q one) ∙ sym (sliced_standing heap script.regions.tags s q is.there is.tag)
          ] refl;
          keeps = λ k none held. given.dataspaces k none;
          either = λ s r at. let was = was_there s r at in elim (sound.heaps.all s r was.0) [
            | inl one ↦ absurd (none-some r (sym was.1 ∙ one))
            | inr one ↦ inr (was.0, one)
          ];
        }

    -- so the other heap stays
    pub heap_left : HeapStays script.heap store mid script.regions after
    heap_left = heap_beside store script sound left pays others leaves

    -- the account is credited with the blocks
    credit : account_of (part script.account.0 mid)
        ≡ credited (account_of (part_at store script)) (total block_size (sliced_at store script)) (len (sliced_at store script))
    credit =
        ap (λ (o : Option Account). unwrap_or o (opened 0 0)) given.charge
        ∙ ap (λ a. credited a (total block_size (sliced_at store script)) (len (sliced_at store script))) (sym (account_of-part script.account.0 store))

    -- ---- and the heap

    module _ {heap' : Heap} {new : Store} {last : Regions} (given_on : GivesAllOfHeap script.heap heap' mid new after last) (sound_on : IsSoundHeap heap' new last)
        (others_on : KeepsShares (heap_payer script.heap) mid new after.heap after.tags last.heap last.tags) where
      -- the account is credited with chunks and large blocks
      credit_on : account_of (part script.account.0 new)
          ≡ credited (account_of (part script.account.0 mid)) (heap_size (own_heap_at store script)) (heap_count (own_heap_at store script))
      credit_on =
          let blocks = heap_at script.heap mid after in
          subst (λ a. account_of (part a new) ≡ credited (account_of (part a mid)) (heap_size (own_heap_at store script)) (heap_count (own_heap_at store script))) sound.heaps.heap_pays
          (ap (λ (o : Option Account). unwrap_or o (opened 0 0)) given_on.charge
          ∙ ap (λ a. credited a (heap_size blocks) (heap_count blocks)) (sym (account_of-part (heap_payer script.heap) mid))
          ∙ ap (λ h. credited (account_of (part (heap_payer script.heap) mid)) (heap_size h) (heap_count h)) heap_left.value)

      -- other accounts keep their parts
      parts_on : OthersStay script.account.0 mid new
      unfolding share_in
      parts_on other apart = ap (λ (s : Share). s.part) (others_on.shares other (λ e. apart (e ∙ sound.heaps.heap_pays)))

      -- without selectors the account has used nothing but blocks
      module _ (none : (selector : ℕ) → get script.caps.caps selector ≡ None) where
        names_none : (k : ℕ) → get (own_at all_sessions store script).selectors k ≡ None
        names_none k = none_at (own_at all_sessions store script).selectors k
            (selects (part_at store script) script.caps script.regions (own_heap_at store script) (sliced_at store script) sound.own all_sessions (λ q server session there. refl) k
            ∙ ap is_some (none k))

        no_objects : total object_caps (own_at all_sessions store script).selectors ≡ 0
        no_objects =
            let selectors = (own_at all_sessions store script).selectors in
            total_same object_caps (λ _. 0) selectors (λ k object there.
            absurd (none-some object (sym (names_none k) ∙ there)))
            ∙ total-zero selectors

        -- so it uses nothing any more
        pub clears : IsCleared script.account.0 store new
        unfolding own_of
        clears =
            let uses = (sound.own.lawful all_sessions (λ q server session there. refl)).uses.caps in
            record {
              unused = omega (arith, uses, no_objects, ap (λ (a : Account). a.caps_used) credit, ap (λ (a : Account). a.caps_used) credit_on);
              ram_limit = ap (λ (a : Account). a.ram_limit) credit_on ∙ ap (λ (a : Account). a.ram_limit) credit;
              caps_limit = ap (λ (a : Account). a.caps_limit) credit_on ∙ ap (λ (a : Account). a.caps_limit) credit;
              others = λ other apart. parts_on other apart ∙ parts_stay store script sound left pays others other apart;
              root = others_on.root ∙ others.root;
              parents = others_on.parents ∙ others.parents;
              room = others_on.room ∙ others.room;
              limits =
                  sym sound_on.window.size ∙ ap (λ (r : Regions). r.pages * 4096) given_on.rest
                  ∙ ap (λ (r : Regions). r.pages * 4096) others.rest ∙ sound.heaps.heap.window.size;
            }

-- ---- the account closes

-- calls of the script before leave its account as it was
pub clears_after : {old mid new : Store} {before after : Script} → Keeps old before mid after → OthersStay before.account.0 old mid → IsCleared after.account.0 mid new → IsCleared before.account.0 old new
clears_after {old} {mid} {new} {before} {after} kept others cleared =
    let same : after.account.0 ≡ before.account.0 = ap (λ (a : AccountId). a.0) kept.account in
    record {
      unused = subst (λ a. (account_of (part a new)).caps_used ≡ 0) same cleared.unused;
      ram_limit = subst (λ a. (account_of (part a new)).ram_limit ≡ (account_of (part_at mid after)).ram_limit) same cleared.ram_limit ∙ kept.ram_limit;
      caps_limit = subst (λ a. (account_of (part a new)).caps_limit ≡ (account_of (part_at mid after)).caps_limit) same cleared.caps_limit ∙ kept.caps_limit;
      others = λ other apart. cleared.others other (λ e. apart (e ∙ same)) ∙ others other apart;
      root = cleared.root ∙ kept.root;
      parents = cleared.parents ∙ kept.parents;
      room = cleared.room ∙ kept.room;
      limits = cleared.limits ∙ kept.limits;
    }

module _ {account : ℕ} {old mid : Store} (cleared : IsCleared account old mid) where
  -- it uses nothing
  pub unused : (account_in mid account).caps_used ≡ 0
  unused = ap (λ (a : Account). a.caps_used) (sym (account_of-part account mid)) ∙ cleared.unused

  -- it has the parent that it had
  same_parent : parent_in mid account ≡ parent_in old account
  same_parent = λ i. unwrap_or (get (cleared.parents i) account) (cleared.root i)

  module _ (opens : IsOpenIn old account) (related : AreRelatedIn mid account (parent_in mid account)) where
    -- and was related to it
    pub was_related : AreRelatedIn old account (parent_in old account)
    was_related = subst (AreRelatedIn old account) same_parent (record {
      apart = related.apart;
      child_open = opens;
      parent_open = open_in_part (parent_in mid account) old
          (ap (λ (p : Part). is_some p.account) (sym (cleared.others (parent_in mid account) related.apart)) ∙ part_open (parent_in mid account) mid related.parent_open);
    })

    -- all limits of capabilities are what they were
    pub same_caps : caps_limits_in mid ≡ caps_limits_in old
    same_caps =
        let now = some_of (part account mid).account (part_open account mid related.child_open) in
        let was = value_at (accounts_in old) account opens in
        let limit : now.0.caps_limit ≡ was.0.caps_limit
        = ap (λ (o : Option Account). (unwrap_or o (opened 0 0)).caps_limit) (sym now.1) ∙ cleared.caps_limit
        ∙ ap (λ (a : Account). a.caps_limit) (account_of-part account old) ∙ ap (λ (o : Option Account). (unwrap_or o (opened 0 0)).caps_limit) was.1 in
        let becomes : PartBecomes account (part account mid) old mid
        = record { own = refl; others = cleared.others; root = cleared.root; parents = cleared.parents; room = cleared.room } in
        ap (total (λ (a : Account). a.caps_limit)) (accounts_after account (part account mid) old mid now.0 becomes now.1)
        ∙ total-insert_same (λ a. a.caps_limit) (accounts_in old) account now.0 was.0 was.1 limit

-- ---- its reserve closes after it

module _ {payer kept : ℕ} {old mid : Store} (own : IsOwnReserve old payer kept) (child : IsSome (get (parents_in old) payer)) (closed : ClosesPart payer (parent_in old payer) old mid) where
  -- the account was below another, and so was its reserve
  payer_below : IsChildIn old payer (parent_in old payer)
  payer_below = let above = some_of (get (parents_in old) payer) child in above.1 ∙ ap Some (sym (ap (λ o. unwrap_or o (root_in old)) above.1))

  reserve_below : IsChildIn mid kept (parent_in old payer)
  reserve_below = ap (λ (m : NatMap ℕ). get m kept) closed.parents ∙ get-remove_other (parents_in old) payer kept own.apart ∙ own.is_reserve.beside ∙ payer_below

  -- so the reserve still is, has none below it and uses nothing
  pub reserve_there : IsSome (get (parents_in mid) kept)
  reserve_there = ap is_some reserve_below

  pub reserve_leaf : IsLeafIn mid kept
  reserve_leaf one below = own.leaf one (before_remove (parents_in old) payer one kept (ap (λ (m : NatMap ℕ). get m one) (sym closed.parents) ∙ below))

  -- it isn't the account above
  reserve_beside : kept ≢ parent_in old payer
  reserve_beside e = own.not_above (payer_below ∙ ap Some (sym e))

  pub reserve_unused : (account_in mid kept).caps_used ≡ 0
  reserve_unused = ap (λ (a : Account). a.caps_used) (sym (account_of-part kept mid) ∙ ap account_of (closed.others kept own.apart reserve_beside ∙ own.is_reserve.unused))

  -- and both close
  pub closes_both : {new : Store} → caps_limits_in mid ≡ caps_limits_in old → ClosesPart kept (parent_in mid kept) mid new → ClosesBoth payer kept (parent_in old payer) old new
  closes_both {new} caps last =
      record { between = mid; first = closed; caps = caps; last = subst (λ p. ClosesPart kept p mid new) (ap (λ o. unwrap_or o (root_in mid)) reserve_below) last }
