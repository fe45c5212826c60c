-- What the heap's calls change of a map and a memory: nothing but bytes of chunks, a region more, or a region less.
use Rattle.std.proofs.Common.{◌≡◌, ◌≢◌, ℕ, ◌+◌, ◌/◌, ◌≤◌, Some, is_some, IsSome, refl, sym, ap, subst, ◌∙◌, arith, inl, inr}
use Rattle.std.proofs.lemmas.Bool.{cases_eq}
use Rattle.std.proofs.lemmas.Option.{none-some}
use Rattle.std.specs.Prelude.{Option, None}
use Rattle.std.specs.Option.{unwrap_or}
use Rattle.std.specs.FinMap.{get, remove, len}
use Rattle.own_model.specs.Account.{Account, opened, charged, credited}
use Rattle.own_model.specs.Region.{Region}
use Rattle.own_model.proofs.NatMapLemmas.{get-insert_same, get-insert_other, get-remove_same, get-remove_other, apart_from_free, after_insert, before_remove}
use Rattle.cap_space.specs.Space.{Space}
use Rattle.region_map.specs.Regions.{Regions, heap_attached, heap_detached}
use Rattle.dataspace_core.specs.Store.{Store, Part, part, account_in, account_of}
use Rattle.dataspace_core.specs.Share.{KeepsShares}
use Rattle.dataspace_core.proofs.PartLaws.{account_of-part}
use Rattle.dataspace_core.proofs.WindowLaws.{in_part, in_none}
use Rattle.sliced_heap.specs.Heap.{share_at}
use Rattle.heap_core.specs.declared.heap.Heap.{Heap}
use Rattle.heap_core.specs.Calls.{KeepsSpaces, AddsSpace, Attaches}
use Rattle.heap_core.specs.Heap.{payer_of as heap_payer, large_tag, large_regions, IsSound as IsSoundHeap}
use Rattle.sliced_heap.proofs.WindowLemmas.{IsTagged, tagged, ShowAlike}
use Rattle.heap_core.proofs.BesideLemmas.{LeavesRest, rest_in_place, alike_in_place, count_in_place, rest_attached, fresh_attached, alike_attached, rest_detached, alike_detached}
use Rattle.pd_core.proofs.HeapCallLemmas.{Owns, Alone, parts_with_shares}

module _ {store : Store} {space : Space} {regions : Regions} {heap : Heap} (o : Owns (heap_payer heap) store space regions heap) where
  -- the account, and its part
  abbrev a : ℕ
  a = heap_payer heap

  abbrev p : Part
  p = part a store

  module _ (store' : Store) where
    -- its part after the call
    abbrev p' : Part
    p' = part a store'

    module _ {heap' : Heap} (payer : heap_payer heap' ≡ heap_payer heap) where
      -- ---- nothing but bytes

      pub alone_in_place : IsSoundHeap heap' store' regions → KeepsShares a store store' regions.heap regions.tags regions.heap regions.tags → p'.account ≡ p.account → KeepsSpaces heap store store' →
          Alone a store space regions heap store' regions heap'
      alone_in_place sound shares account spaces =
          let left = rest_in_place heap store store' regions o.sound spaces in
          let now : account_of p' ≡ account_of p = ap (λ (y : Option Account). unwrap_or y (opened 0 0)) account in record {
            sound = sound;
            payer = payer;
            shares = shares;
            rest = refl;
            stands = left.stands;
            kept = left.kept;
            tags = λ s r there. let was = tagged a store regions s r there (o.all s r there) in record { paid = alike_in_place heap store store' regions o.sound spaces r.of ∙ was.paid; tag = was.tag };
            unnamed = o.own.blocks.unnamed;
            ram_limit = ap (λ (x : Account). x.ram_limit) now;
            caps_limit = ap (λ (x : Account). x.caps_limit) now;
            spare = omega (arith, count_in_place heap store store' regions o.sound spaces, ap (λ (x : Account). x.caps_used) now, o.own.paid.spare);
          }

      -- ---- a region more

      module _ (ds bytes tag start : ℕ) (low : tag ≤ large_tag) (sound : IsSoundHeap heap' store' (heap_attached regions ds (bytes / 4096) tag start))
          (shares : KeepsShares a store store' regions.heap regions.tags (heap_attached regions ds (bytes / 4096) tag start).heap (heap_attached regions ds (bytes / 4096) tag start).tags)
          (attaches : Attaches heap ds bytes tag start store store' regions (heap_attached regions ds (bytes / 4096) tag start)) (spaces : AddsSpace heap ds store store') where
        abbrev region : Region
        region = record { of = ds; pages = bytes / 4096 }

        abbrev after : Regions
        after = heap_attached regions ds (bytes / 4096) tag start

        left : LeavesRest a store store' regions after
        left = rest_attached heap store store' regions o.sound ds bytes tag start low sound.window attaches.gap spaces

        -- the account hadn't its dataspace
        fresh : get p.spaces ds ≡ None
        fresh = fresh_attached heap store store' regions o.sound ds bytes tag start low sound.window attaches.gap spaces

        alike : ShowAlike p p' regions.heap
        alike = alike_attached heap store store' regions o.sound ds bytes tag start low sound.window attaches.gap spaces

        -- so the account has it now
        paid_now : IsSome (get p'.spaces ds)
        paid_now =
            let shown = sound.window.shown_whole start region (get-insert_same regions.heap start region start refl) in
            elim (cases_eq shown.space.payer a) [
              | inl own ↦ ap is_some (ap (λ x. get (part x store').spaces ds) (sym own) ∙ in_part store' ds shown.space shown.there)
              | inr other ↦
                  absurd (none-some shown.space.bytes (sym (in_none shown.space.payer ds store spaces.fresh)
                  ∙ ap (λ (q : Part). get q.spaces ds) (sym (parts_with_shares shares shown.space.payer other)) ∙ in_part store' ds shown.space shown.there))
            ]

        -- and the charge is the account's
        charge : account_of p' ≡ charged (account_of p) bytes 1
        charge = ap (λ (y : Option Account). unwrap_or y (opened 0 0)) attaches.charge ∙ ap (λ x. charged x bytes 1) (sym (account_of-part a store))

        tags_now : (s : ℕ) (r : Region) → get after.heap s ≡ Some r → IsTagged p'.spaces after.tags s r
        tags_now s r there = elim (after_insert regions.heap start region s r there) [
          | inl here ↦ record {
            paid = subst (λ (x : Region). IsSome (get p'.spaces x.of)) (sym here.1) paid_now;
            tag = inr (tag, get-insert_same regions.tags start tag s here.0, low);
          }
          | inr old ↦
              let was = tagged a store regions s r old.1 (o.all s r old.1) in
              let kept : get after.tags s ≡ get regions.tags s = get-insert_other regions.tags start tag s old.0 in record {
                paid = alike s r old.1 ∙ was.paid;
                tag = elim was.tag [ inl is ↦ inl (kept ∙ is) | inr is ↦ inr (is.0, kept ∙ is.1, is.2) ];
              }
        ]

        pub alone_attached : Alone a store space regions heap store' after heap'
        alone_attached = record {
          sound = sound;
          payer = payer;
          shares = shares;
          rest = refl;
          stands = left.stands;
          kept = left.kept;
          tags = tags_now;
          unnamed = λ s q r d there names. elim (after_insert regions.heap start region s r there) [
            | inl here ↦ λ e. apart_from_free p.spaces ds d.0 fresh (o.own.named.there q d names) (e ∙ ap (λ (x : Region). x.of) here.1)
            | inr old ↦ o.own.blocks.unnamed s q r d old.1 names
          ];
          ram_limit = ap (λ (x : Account). x.ram_limit) charge;
          caps_limit = ap (λ (x : Account). x.caps_limit) charge;
          spare = omega (arith, spaces.count, ap (λ (x : Account). x.caps_used) charge, o.own.paid.spare);
        }

      -- ---- a region less

      module _ (ds pages bytes start : ℕ) (was : get (large_regions (share_at a store regions)) start ≡ Some (record { of = ds; pages = pages }))
          (sound : IsSoundHeap heap' store' (heap_detached regions start))
          (shares : KeepsShares a store store' regions.heap regions.tags (heap_detached regions start).heap (heap_detached regions start).tags)
          (charge : p'.account ≡ Some (credited (account_in store a) bytes 1)) (others : (k : ℕ) → k ≢ ds → get p'.spaces k ≡ get p.spaces k) (count : len p'.spaces + 1 ≡ len p.spaces) where
        less : LeavesRest a store store' regions (heap_detached regions start)
        less = rest_detached heap store store' regions o.sound ds pages start was others

        credit : account_of p' ≡ credited (account_of p) bytes 1
        credit = ap (λ (y : Option Account). unwrap_or y (opened 0 0)) charge ∙ ap (λ x. credited x bytes 1) (sym (account_of-part a store))

        tags_left : (s : ℕ) (r : Region) → get (remove regions.heap start) s ≡ Some r → IsTagged p'.spaces (remove regions.tags start) s r
        tags_left s r there =
            let apart : s ≢ start = λ e. none-some r (sym (get-remove_same regions.heap start s e) ∙ there) in
            let old = before_remove regions.heap start s r there in
            let is = tagged a store regions s r old (o.all s r old) in
            let kept : get (remove regions.tags start) s ≡ get regions.tags s = get-remove_other regions.tags start s apart in record {
              paid = alike_detached heap store store' regions o.sound ds pages start was others s r apart old ∙ is.paid;
              tag = elim is.tag [ inl tag ↦ inl (kept ∙ tag) | inr tag ↦ inr (tag.0, kept ∙ tag.1, tag.2) ];
            }

        pub alone_detached : Alone a store space regions heap store' (heap_detached regions start) heap'
        alone_detached = record {
          sound = sound;
          payer = payer;
          shares = shares;
          rest = refl;
          stands = less.stands;
          kept = less.kept;
          tags = tags_left;
          unnamed = λ s q r d there names. o.own.blocks.unnamed s q r d (before_remove regions.heap start s r there) names;
          ram_limit = ap (λ (x : Account). x.ram_limit) credit;
          caps_limit = ap (λ (x : Account). x.caps_limit) credit;
          spare = omega (arith, count, ap (λ (x : Account). x.caps_used) credit, o.own.paid.spare);
        }
