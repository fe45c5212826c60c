-- Two heaps on one map: both stay sound over each other's calls.
use Rattle.std.proofs.lemmas.Bool.Decides.{nat_tests}
use Rattle.std.proofs.Common.{rules, ◌≡◌, ◌+◌, ◌*◌, ◌≤◌, ℕ, length, is_some, refl, sym, ap, subst, ◌∙◌, arith}
use Rattle.std.specs.Prelude.{None}
use Rattle.std.specs.FinMap.{get}
use Rattle.trade_base.specs.Word.{word_bytes}
use Rattle.trade_base.proofs.WordLemmas.{word_bytes-lt, length-word_bytes}
use Rattle.own_model.proofs.NatMapLemmas.{apart_from_free}
use Rattle.own_model.specs.HeapWindow.{largest_machine}
use Rattle.region_map.specs.Regions.{Regions, fresh_regions}
use Rattle.dataspace_core.specs.Store.{Store, Part, part, accounts_in, Exists, space_at, IsOpenIn, PartBecomes, OpensPart, part_with_bytes, fresh_store, ram_limits_in}
use Rattle.dataspace_core.specs.Share.{share_in, IsWindowOf, KeepsShares}
use Rattle.dataspace_core.proofs.LimitLaws.{fresh_limits}
use Rattle.dataspace_core.proofs.PartLaws.{IsPaidBy, paid_in_part, becomes_paid, open_in_part}
use Rattle.heap_core.specs.declared.heap.Heap.{Heap}
use Rattle.layer_tests.specs.Heaps.{AreBeside}
use Rattle.heap_core.specs.Calls.{HoldsRange}
use Rattle.heap_core.specs.Heap.{payer_of, share_at, IsSound, HasNoBlocks}
use Rattle.heap_core.proofs.RangeLemmas.{payload_poked}
use Rattle.heap_core.proofs.StayLemmas.{empty_map, heap_stays_beside}
use Rattle.heap_core.proofs.WordsLemmas.{below_bytes}

-- a call on the one heap
pub beside_after : (heap other next : Heap) (old new : Store) (regions after : Regions) → AreBeside heap other old regions → IsSound next new after →
    KeepsShares (payer_of heap) old new regions.heap regions.tags after.heap after.tags → payer_of next ≡ payer_of heap → AreBeside next other new after
beside_after heap other next old new regions after both sound keeps payer = record {
  sound = sound;
  other_sound = (heap_stays_beside other (payer_of heap) old new regions after both.other_sound (λ e. both.apart (sym e)) keeps sound.window).sound;
  apart = λ e. both.apart (e ∙ payer);
}

-- heaps of the root and of an account that was opened below it, on a new map
pub beside_booted : (heap other : Heap) (old new : Store) (regions : Regions) (key root child pages caps accounts places ram few user : ℕ) → old ≡ fresh_store key pages caps accounts places → pages ≤ largest_machine → IsOpenIn old root → get (accounts_in old) child ≡ None →
    OpensPart root child ram few old new → ram_limits_in new ≡ ram_limits_in old → regions ≡ fresh_regions user pages pages →
    (IsOpenIn new root → IsWindowOf new regions.pages regions.heap_most regions.heap → HasNoBlocks (share_at root new regions) → IsSound heap new regions) → payer_of heap ≡ root →
    (IsOpenIn new child → IsWindowOf new regions.pages regions.heap_most regions.heap → HasNoBlocks (share_at child new regions) → IsSound other new regions) → payer_of other ≡ child → AreBeside heap other new regions
beside_booted heap other old new regions key root child pages caps accounts places ram few user is small opens free part_is limits fresh first first_payer second second_payer =
    let none = empty_map new regions (ap (λ (m : Regions). m.heap) fresh)
    (ap (λ (m : Regions). m.pages * 4096) fresh ∙ sym (limits ∙ ap ram_limits_in is ∙ fresh_limits key pages caps accounts places))
    (ap (λ (m : Regions). m.heap_most) fresh ∙ sym (ap (λ (m : Regions). m.pages) fresh))
    (subst (λ n. n ≤ largest_machine) (sym (ap (λ (m : Regions). m.pages) fresh)) small) in
    record {
      sound = first (open_in_part root new (ap (λ (p : Part). is_some p.account) part_is.parted_one)) none.0 (none.1 root);
      other_sound = second (open_in_part child new (ap (λ (p : Part). is_some p.account) part_is.opened_one)) none.0 (none.1 child);
      apart = λ e. apart_from_free (accounts_in old) child root free opens (sym first_payer ∙ sym e ∙ second_payer);
    }
