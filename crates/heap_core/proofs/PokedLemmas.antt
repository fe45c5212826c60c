-- The heap after a poke: one payload has other bytes.
use Rattle.std.proofs.Common.{◌≡◌, ◌≢◌, ℕ, ◌+◌, ◌-◌, ◌<◌, ◌≤◌, true, false, cond, eqb, List, [], ◌∷◌, length, refl, ap, ◌∙◌, ⊎_elim, ◌⊎◌, inl, inr, arith, rules, Some, sym}
use Rattle.std.proofs.lemmas.Bool.{cases_eq, cases_lt}
use Rattle.std.proofs.lemmas.Bool.Decides.{nat_tests}
use Rattle.std.proofs.lemmas.List.{same_lists, places}
use Rattle.std.proofs.lemmas.Option.{none-some}
use Rattle.std.specs.Prelude.{None, nat_lt, nat_le, slice_range}
use Rattle.std.specs.Option.{option_map}
use Rattle.trade_base.specs.Bytes.{with_bytes}
use Rattle.trade_base.proofs.ElsewhereLemmas.{range_before, range_after}
use Rattle.own_model.specs.BestFit.{used_at}
use Rattle.own_model.specs.Heap.{Block, Used, Hole, AreBlocks, bytes_in}
use Rattle.own_model.specs.OwnState.{with_part}
use Rattle.own_model.proofs.HeapBlockLemmas.{used_within}
use Rattle.heap_core.proofs.PayloadLemmas.{told}
use Rattle.heap_core.proofs.UsedLemmas.{used_cases, used_past}

-- what lies apart among the blocks after one lies apart
apart_later : (y n z m b : ℕ) → b ≤ y → b ≤ z → (z - b + m ≤ y - b) ⊎ (y - b + n ≤ z - b) → (z + m ≤ y) ⊎ (y + n ≤ z)
apart_later y n z m b past beyond (inl before) = inl (omega (arith, before, past, beyond))
apart_later y n z m b past beyond (inr after) = inr (omega (arith, after, past, beyond))

others_later : (y z b : ℕ) → b ≤ y → b ≤ z → y ≢ z → y - b ≢ z - b
others_later y z b past beyond other same = other (omega (arith, same, past, beyond))

-- two used blocks lie one after the other
pub used_apart : (y n z m : ℕ) (blocks : List Block) → used_at y blocks ≡ Some n → used_at z blocks ≡ Some m → y ≢ z → (z + m ≤ y) ⊎ (y + n ≤ z)
used_apart y n z m [] at also other = absurd (none-some n at)
used_apart y n z m (Used b ∷ rest) at also other = elim (used_cases y n b rest at) [
  | inl first ↦ elim (used_cases z m b rest also) [
    | inl front ↦ absurd (other (first.0 ∙ sym front.0))
    | inr beyond ↦
        let zero = first.0 in
        let same = first.1 in
        let past = beyond.0 in inr (omega (arith, zero, same, past))
  ]
  | inr later ↦ elim (used_cases z m b rest also) [
    | inl front ↦
        let zero = front.0 in
        let same = front.1 in
        let past = later.0 in inl (omega (arith, zero, same, past))
    | inr beyond ↦
        apart_later y n z m b later.0 beyond.0
        (used_apart (y - b) n (z - b) m rest later.1 beyond.1 (others_later y z b later.0 beyond.0 other))
  ]
]
used_apart y n z m (Hole b ∷ rest) at also other =
    let later = used_past y n b rest at in
    let beyond = used_past z m b rest also in
    apart_later y n z m b later.0 beyond.0
    (used_apart (y - b) n (z - b) m rest later.1 beyond.1 (others_later y z b later.0 beyond.0 other))

-- bytes put within a range are put into the range
pub put_within : (bytes : List ℕ) (offset : ℕ) (part : List ℕ) (from to : ℕ) → from ≤ offset → offset + length part ≤ to → to ≤ length bytes →
    slice_range (with_bytes bytes offset part) from to ≡ with_bytes (slice_range bytes from to) (offset - from) part
unfolding with_bytes
put_within bytes offset part from to low high fits = same_lists _ _ (search (rules, places)) (λ k d h. grind (arith, places))

-- a payload with the bytes put over it
pub put_part : (payload : List ℕ) (offset : ℕ) (part : List ℕ) → offset + length part ≤ length payload → with_bytes payload offset part ≡ with_part payload offset part
unfolding with_part
put_part payload offset part fits = let t : nat_le (offset + length part) (length payload) ≡ true = grind (arith, nat_tests) in rw t refl

fits_in : (bytes : List ℕ) (y n offset : ℕ) (part : List ℕ) → y + 16 ≤ offset → offset + length part ≤ y + n → y + n ≤ length bytes → offset - (y + 16) + length part ≤ length (slice_range bytes (y + 16) (y + n))
fits_in bytes y n offset part behind within fits = grind (arith, nat_tests, places)

-- one chunk tells other bytes of the one payload
pub told-poked : (start : ℕ) (bytes : List ℕ) (blocks : List Block) (y n offset : ℕ) (part : List ℕ) (q : ℕ) → AreBlocks blocks → used_at y blocks ≡ Some n → y + 16 ≤ offset → offset + length part ≤ y + n → bytes_in blocks ≤ length bytes →
    told start 0 (with_bytes bytes offset part) blocks q ≡ cond (eqb q (start + y + 16)) (Some (with_part (slice_range bytes (y + 16) (y + n)) (offset - (y + 16)) part)) (told start 0 bytes blocks q)
told-poked start bytes blocks y n offset part q sizes at behind within long = ⊎_elim
    (λ (low : q < start + 0 + 16).
    let a : nat_lt q (start + 0 + 16) ≡ true = grind (arith, nat_tests) in
    let t : eqb q (start + y + 16) ≡ false = grind (arith, nat_tests) in rw (a, t) refl)
    (λ (high : start + 0 + 16 ≤ q).
    let a : nat_lt q (start + 0 + 16) ≡ false = grind (arith, nat_tests) in
    rw a (⊎_elim
    (λ (same : q ≡ start + y + 16).
    let t : eqb q (start + y + 16) ≡ true = grind (arith, nat_tests) in
    let u : q - 16 - (start + 0) ≡ y = omega (arith, same) in
    let from : q - start ≡ y + 16 = omega (arith, same) in
    let to : y + 16 - 16 + n ≡ y + n = omega arith in
    let inside = (used_within y n blocks sizes at).1 in
    rw (t, u, at, from, to) (ap Some (put_within bytes offset part (y + 16) (y + n) behind within (omega (arith, inside, long))
    ∙ put_part (slice_range bytes (y + 16) (y + n)) (offset - (y + 16)) part (fits_in bytes y n offset part behind within (omega (arith, inside, long))))))
    (λ (other : q ≢ start + y + 16).
    let t : eqb q (start + y + 16) ≡ false = grind (arith, nat_tests) in
    rw t (elim (used_at (q - 16 - (start + 0)) blocks) as (λ o. used_at (q - 16 - (start + 0)) blocks ≡ o → option_map (λ m. slice_range (with_bytes bytes offset part) (q - start) (q - start - 16 + m)) o ≡ option_map (λ m. slice_range bytes (q - start) (q - start - 16 + m)) o) [
      | None ↦ λ e. refl
      | Some m ↦ λ e.
          let inside = (used_within y n blocks sizes at).1 in
          let fits : offset + length part ≤ length bytes = omega (arith, within, inside, long) in
          let least = (used_within y n blocks sizes at).0.least in
          ap Some (⊎_elim
          (λ (before : q - 16 - (start + 0) + m ≤ y). range_before bytes offset part (q - start) (q - start - 16 + m) (omega (arith, before, behind, high)) fits)
          (λ (after : y + n ≤ q - 16 - (start + 0)). range_after bytes offset part (q - start) (q - start - 16 + m) (omega (arith, after, within, high)) fits)
          (used_apart y n (q - 16 - (start + 0)) m blocks at e (λ z. other (omega (arith, z, high)))))
    ] refl))
    (cases_eq q (start + y + 16))))
    (cases_lt q (start + 0 + 16))
