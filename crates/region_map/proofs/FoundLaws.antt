-- Laws for callers: the heap region that holds an address.
use Rattle.std.proofs.Common.{◌≡◌, ◌≢◌, ℕ, true, false, Some, is_some, refl, sym, ap, ◌∙◌, ⊎_elim, true≢false, arith}
use Rattle.std.proofs.lemmas.Bool.{cases_eq}
use Rattle.std.proofs.lemmas.Bool.Decides.{nat_tests}
use Rattle.std.proofs.lemmas.Option.{none-some}
use Rattle.std.specs.Prelude.{Option, None}
use Rattle.std.specs.Option.{option_map, option_and_then}
use Rattle.std.specs.FinMap.{get}
use Rattle.own_model.specs.NatMap.{NatMap}
use Rattle.own_model.specs.Region.{Region, holds, region_at}
use Rattle.own_model.proofs.NatMapLemmas.{and_then_from, some_of, mapped_from}
use Rattle.own_model.proofs.EntryLemmas.{found_in_map, not_found_in_map}
use Rattle.region_map.specs.Regions.{Regions, AreSound, heap_found}

-- what is told of a region with its number
abbrev told_of : NatMap ℕ → ℕ × Region → Option (ℕ × ℕ × ℕ)
told_of tags e = option_map (λ tag. (e.0, e.1.of, tag)) (get tags e.0)

-- a region that the map finds at an address is there, with its number, and holds it
pub found_parts : (regions : Regions) (address start of tag : ℕ) → heap_found regions address ≡ Some (start, of, tag) →
    (r : Region) × (get regions.heap start ≡ Some r) × (r.of ≡ of) × (get regions.tags start ≡ Some tag) × (holds address 1 (start, r) ≡ true)
found_parts regions address start of tag h =
    let from = and_then_from (told_of regions.tags) (region_at regions.heap address 1) (start, of, tag) h in
    let e = from.0 in
    let told = mapped_from (λ (t : ℕ). (e.0, e.1.of, t)) (get regions.tags e.0) (start, of, tag) from.2 in
    let there = found_in_map (holds address 1) regions.heap e from.1 in
    let at : e.0 ≡ start = ap (λ (x : ℕ × ℕ × ℕ). x.0) told.2 in (
      e.1,
      ap (get regions.heap) (sym at) ∙ there.1,
      ap (λ (x : ℕ × ℕ × ℕ). x.1) told.2,
      ap (get regions.tags) (sym at) ∙ told.1 ∙ ap (λ (x : ℕ × ℕ × ℕ). Some x.2) told.2,
      ap (λ k. holds address 1 (k, e.1)) (sym at) ∙ there.0,
    )

-- where it finds none, no region holds the address
pub found_none : (regions : Regions) (address : ℕ) → AreSound regions → heap_found regions address ≡ None → (s : ℕ) (r : Region) → get regions.heap s ≡ Some r → holds address 1 (s, r) ≡ false
found_none regions address sound h s r there =
    elim (region_at regions.heap address 1) as (λ o. region_at regions.heap address 1 ≡ o → holds address 1 (s, r) ≡ false) [
      | None ↦ λ at. not_found_in_map (holds address 1) regions.heap s r at there
      | Some x ↦ λ at.
          let tag = some_of (get regions.tags x.0) (sound.tagged x.0 ∙ ap is_some (found_in_map (holds address 1) regions.heap x at).1) in
          absurd (none-some (x.0, x.1.of, tag.0) (sym h ∙ ap (option_and_then (told_of regions.tags)) at ∙ ap (option_map (λ t. (x.0, x.1.of, t))) tag.1))
    ] refl

-- regions of which no two overlap don't hold one address
pub held_once : (regions : Regions) → AreSound regions → (address s t : ℕ) (r q : Region) → get regions.heap s ≡ Some r → get regions.heap t ≡ Some q → holds address 1 (s, r) ≡ true → holds address 1 (t, q) ≡ true → s ≡ t
held_once regions sound address s t r q h g x y = ⊎_elim
    (λ (same : s ≡ t). same)
    (λ (apart : s ≢ t). let clear = sound.heap.apart s t r q h g apart in absurd (true≢false (grind (arith, nat_tests))))
    (cases_eq s t)
