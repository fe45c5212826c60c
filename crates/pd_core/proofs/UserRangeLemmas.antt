-- Which window a range lies in tells in which one its region is.
use Rattle.std.proofs.Common.{◌≡◌, ℕ, ◌+◌, ◌<◌, ◌≤◌, Some, None, refl, arith}
use Rattle.std.specs.Option.{option_or}
use Rattle.own_model.specs.NatMap.{NatMap}
use Rattle.own_model.specs.Region.{Region, user_low, user_high, resolved}
use Rattle.own_model.specs.HeapWindow.{heap_low, heap_high}
use Rattle.own_model.specs.Sound.{LieApart}
use Rattle.own_model.proofs.RegionLemmas.{resolved_facts}
use Rattle.region_map.specs.Regions.{Regions, AreSound, either_resolved}

-- a range that a window's region holds lies in the window
within : (low high : ℕ) (regions : NatMap Region) (address count of offset : ℕ) → LieApart low high regions → resolved regions address count ≡ Some (of, offset) → (low ≤ address) × (address + count ≤ high)
within low high regions address count of offset lie at =
    let facts = resolved_facts regions address count of offset at in
    let window = lie.within facts.0.0 facts.0.1 facts.2 in
    let from = window.from_low in
    let to = window.to_high in
    let start = facts.4 in
    let end = facts.5 in
    (omega arith, omega arith)

module _ (regions : Regions) (address count : ℕ) (sound : AreSound regions) where
  -- before the heap window only a user region holds it
  pub user_alone : address < heap_low → either_resolved regions address count ≡ resolved regions.user address count
  user_alone before =
      elim (resolved regions.user address count) as (λ o. option_or o (resolved regions.heap address count) ≡ o) [
        | Some at ↦ refl
        | None ↦
            elim (resolved regions.heap address count) as (λ o. resolved regions.heap address count ≡ o → o ≡ None) [
              | Some at ↦ λ is. let from = (within heap_low (heap_high regions.pages) regions.heap address count at.0 at.1 sound.heap is).0 in absurd (omega arith)
              | None ↦ λ is. refl
            ] refl
      ]

  -- and in the heap window none does
  pub no_user : heap_low ≤ address → resolved regions.user address count ≡ None
  no_user past =
      elim (resolved regions.user address count) as (λ o. resolved regions.user address count ≡ o → o ≡ None) [
        | Some at ↦ λ is. let to = (within user_low user_high regions.user address count at.0 at.1 sound.user is).1 in absurd (omega arith)
        | None ↦ λ is. refl
      ] refl
