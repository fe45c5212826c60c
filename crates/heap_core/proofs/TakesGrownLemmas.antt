-- A block is taken in the chunk by which a heap has grown for it.
use Rattle.std.proofs.Common.{rules, ◌≡◌, ◌≢◌, ℕ, ◌+◌, ◌*◌, ◌≤◌, Bool, true, false, cond, length, ap, subst, ◌∙◌, arith, Some}
use Rattle.std.proofs.Math.Seq.{get_or-append_seam}
use Rattle.std.proofs.lemmas.List.{length-map}
use Rattle.std.specs.Prelude.{None, max, is_none}
use Rattle.std.specs.Option.{option_map}
use Rattle.std.specs.FinMap.{get}
use Rattle.trade_base.specs.Page.{page_of}
use Rattle.own_model.specs.Account.{Account, shortage}
use Rattle.own_model.specs.BestFit.{block_size}
use Rattle.own_model.specs.Growth.{Growth, Shape, growth_of, hole_for, larger_growth, least_growth, new_hole, shape_grown}
use Rattle.own_model.specs.HeapStep.{with_block}
use Rattle.own_model.specs.OwnHeap.{OwnHeap}
use Rattle.own_model.proofs.HeapBestFitLemmas.{new_hole_best}
use Rattle.region_map.specs.Regions.{Regions}
use Rattle.dataspace_core.specs.Store.{Store, part, account_in}
use Rattle.dataspace_core.specs.Share.{share_in}
use Rattle.heap_core.specs.declared.heap.Heap.{Heap}
use Rattle.heap_core.specs.Calls.{Grows, TakesGrown, TakesSmall, growth_at, part_at}
use Rattle.heap_core.specs.Heap.{IsSound, heap_in, keys_in, payer_of, shape_in}
use Rattle.heap_core.specs.Words.{is_among}
use Rattle.heap_core.proofs.AddLemmas.{among_more}
use Rattle.heap_core.proofs.GrowthLemmas.{chunk_count}
use Rattle.heap_core.proofs.RoomLemmas.{len_alike}

-- a growth has room for the block
either_fits : (b : Bool) (size larger : ℕ) (x y : ℕ) → size ≤ (cond {A = Growth} b (record { bytes = max larger (page_of size); next = x }) (record { bytes = page_of size; next = y })).bytes
either_fits true size larger x y = omega arith
either_fits false size larger x y = omega arith

pub growth_fits : (n : ℕ) (shape : Shape) (a : Account) → block_size n ≤ (growth_of n shape a).bytes
growth_fits n shape a = either_fits (is_none (shortage a (larger_growth n shape).bytes 1)) (block_size n) (shape.growth * 4096) (larger_growth n shape).next (least_growth n shape).next

module _ (heap mid : Heap) (n : ℕ) (old now : Store) (regions after : Regions) (sound : IsSound heap old regions) (none : hole_for n (shape_in heap (part_at heap old)) ≡ None) (payer : payer_of mid ≡ payer_of heap)
    (grows : Grows heap mid (growth_at n heap old) old now regions after) where
  abbrev shape : Shape
  shape = shape_in heap (part_at heap old)

  abbrev growth : Growth
  growth = growth_at n heap old

  shape_then : shape_in mid (part_at mid now) ≡ shape_grown growth shape
  unfolding heap_in share_in
  shape_then = ap (λ (h : OwnHeap). h.shape) grows.value

  -- its hole is the best
  pub new_best : hole_for n (shape_in mid (part_at mid now)) ≡ Some (new_hole growth shape)
  new_best = ap (hole_for n) shape_then ∙ new_hole_best n shape growth none (growth_fits n shape (account_in old (payer_of heap)))

  module _ (later : Heap) (address : ℕ) (new : Store) (takes : TakesSmall mid later n (new_hole growth shape) address now new after after) where
    start_is : address ≡ grows.start + 16
    unfolding heap_in share_in
    start_is = search (rules, chunk_count, length-map, get_or-append_seam)

    same_account : (part_at heap new).account ≡ (part_at heap now).account
    same_account = subst (λ p. (part p new).account ≡ (part p now).account) payer takes.account

    same_length : (k : ℕ) → option_map length (get (part_at heap new).spaces k) ≡ option_map length (get (part_at heap now).spaces k)
    same_length k = subst (λ p. option_map length (get (part p new).spaces k) ≡ option_map length (get (part p now).spaces k)) payer (takes.spaces.lengths k)

    same_space : (k : ℕ) → k ≢ grows.ds → is_among (keys_in heap) k ≡ false → get (part_at heap new).spaces k ≡ get (part_at heap now).spaces k
    same_space k other none_among = search (rules, among_more)

    pub takes_grown : TakesGrown heap later n address old new regions after
    unfolding heap_in share_in
    takes_grown = record {
      ds = grows.ds;
      start = grows.start;
      at = start_is;
      attaches = record {
        gap = grows.attaches.gap;
        lowest = grows.attaches.lowest;
        attached = grows.attaches.attached;
        charge = same_account ∙ grows.attaches.charge;
      };
      value = takes.value ∙ ap (with_block n (new_hole growth shape)) grows.value;
      keys = takes.keys ∙ grows.keys;
      spaces = record {
        fresh = grows.spaces.fresh;
        others = λ k other none_among. same_space k other none_among ∙ grows.spaces.others k other none_among;
        lengths = λ k other. same_length k ∙ grows.spaces.lengths k other;
        count = len_alike (part_at heap new).spaces (part_at heap now).spaces same_length ∙ grows.spaces.count;
      };
    }
