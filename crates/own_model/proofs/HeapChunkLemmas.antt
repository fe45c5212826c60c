-- The chunks of a heap by their numbers, and which one an address lies in.
use Rattle.std.proofs.Common.{zero, suc, ◌≡◌, ◌≢◌, ℕ, ◌+◌, ◌-◌, ◌<◌, ◌≤◌, ◌++◌, ◌&&◌, true, false, cond, List, [], ◌∷◌, length, nat_lt, nat_le, Some, refl, ap, ◌∙◌, inl, inr, ◌⊎◌, arith, set, get_or}
use Rattle.std.proofs.lemmas.Bool.Decides.{nat_tests}
use Rattle.std.proofs.lemmas.Option.{none-some}
use Rattle.own_model.proofs.EntryLemmas.{value_of_first, later_value}
use Rattle.own_model.proofs.HeapOwnLemmas.{range_of_bytes}
use Rattle.own_model.specs.BestFit.{chunk_of}
use Rattle.own_model.specs.Entries.{value_of, KeysDiffer}
use Rattle.own_model.specs.Heap.{Heap, Block, bytes_in}
use Rattle.own_model.specs.OwnHeap.{chunk_ranges, chunk_from}

-- an address lies in a chunk
pub record Lies (starts : List ℕ) (chunks : Heap) (i address : ℕ) : Type 0 where
  pub low : get_or starts i 0 ≤ address
  pub high : address < get_or starts i 0 + bytes_in (chunk_of chunks i)

-- where each chunk starts, its range is
pub chunk_there : (starts : List ℕ) (chunks : Heap) (i : ℕ) → length starts ≡ length chunks → KeysDiffer (chunk_ranges starts chunks) → i < length chunks →
    value_of (get_or starts i 0) (chunk_ranges starts chunks) ≡ Some (range_of_bytes (bytes_in (chunk_of chunks i)))
chunk_there starts [] i e differ within = absurd (omega (arith, within))
chunk_there [] (c ∷ chunks) i e differ within = absurd (omega (arith, e))
chunk_there (s ∷ starts) (c ∷ chunks) zero e differ within = value_of_first s (s, range_of_bytes (bytes_in c)) (chunk_ranges starts chunks) (grind (arith, nat_tests))
chunk_there (s ∷ starts) (c ∷ chunks) (suc i) e differ within = grind (arith, nat_tests, later_value, range_of_bytes, chunk_there starts chunks i (omega (arith, e)) differ.1 (omega (arith, within)))

-- no chunk starts where an earlier one does
pub starts_differ : (starts : List ℕ) (chunks : Heap) (j i : ℕ) → length starts ≡ length chunks → KeysDiffer (chunk_ranges starts chunks) → j < i → i < length chunks →
    get_or starts j 0 ≢ get_or starts i 0
starts_differ starts [] j i e differ less within same = absurd (omega (arith, within))
starts_differ [] (c ∷ chunks) j i e differ less within same = absurd (omega (arith, e))
starts_differ (s ∷ starts) (c ∷ chunks) j zero e differ less within same = absurd (omega (arith, less))
starts_differ (s ∷ starts) (c ∷ chunks) zero (suc i) e differ less within same = grind (arith, nat_tests, none-some, range_of_bytes, chunk_there)
starts_differ (s ∷ starts) (c ∷ chunks) (suc j) (suc i) e differ less within same =
    starts_differ starts chunks j i (omega (arith, e)) differ.1 (omega (arith, less)) (omega (arith, within)) same

-- an address is a chunk's where it lies in that and in none before
pub chunk_from_is : (number : ℕ) (starts : List ℕ) (chunks : Heap) (i address : ℕ) → length starts ≡ length chunks → i < length chunks → Lies starts chunks i address →
    ((j : ℕ) → j < i → ¬ Lies starts chunks j address) → chunk_from number starts chunks address ≡ number + i
chunk_from_is number starts [] i address e within lies before = absurd (omega (arith, within))
chunk_from_is number [] (c ∷ chunks) i address e within lies before = absurd (omega (arith, e))
chunk_from_is number (s ∷ starts) (c ∷ chunks) zero address e within lies before = grind (arith, nat_tests)
chunk_from_is number (s ∷ starts) (c ∷ chunks) (suc i) address e within lies before =
    let first = before 0 (omega arith) in
    elim (nat_le s address && nat_lt address (s + bytes_in c)) as (λ b. nat_le s address && nat_lt address (s + bytes_in c) ≡ b → cond b number (chunk_from (number + 1) starts chunks address) ≡ number + suc i) [
      | true ↦ λ here. absurd (first (record { low = grind (arith, nat_tests); high = grind (arith, nat_tests) }))
      | false ↦ λ _.
          let rest = chunk_from_is (number + 1) starts chunks i address (omega (arith, e)) (omega (arith, within)) (record { low = lies.low; high = lies.high })
          (λ j less other. before (suc j) (omega (arith, less)) (record { low = other.low; high = other.high })) in
          omega (arith, rest)
    ] refl

-- the chunk of an address: it lies there, or in none
pub record IsAt (number : ℕ) (starts : List ℕ) (chunks : Heap) (address : ℕ) : Type 0 where
  pub place : ℕ
  pub is : chunk_from number starts chunks address ≡ number + place
  pub lies : ((place < length chunks) × Lies starts chunks place address) ⊎ (place ≡ length chunks)

pub chunk_from_lies : (number : ℕ) (starts : List ℕ) (chunks : Heap) (address : ℕ) → length starts ≡ length chunks → IsAt number starts chunks address
chunk_from_lies number [] [] address e = record { place = 0; is = omega arith; lies = inr refl }
chunk_from_lies number [] (c ∷ chunks) address e = absurd (omega (arith, e))
chunk_from_lies number (s ∷ starts) [] address e = absurd (omega (arith, e))
chunk_from_lies number (s ∷ starts) (c ∷ chunks) address e =
    elim (nat_le s address && nat_lt address (s + bytes_in c)) as (λ b. nat_le s address && nat_lt address (s + bytes_in c) ≡ b → IsAt number (s ∷ starts) (c ∷ chunks) address) [
      | true ↦ λ here. record {
        place = 0;
        is = ap (λ b. cond b number (chunk_from (number + 1) starts chunks address)) here ∙ omega arith;
        lies = inl (omega arith, record { low = grind (arith, nat_tests); high = grind (arith, nat_tests) });
      }
      | false ↦ λ other.
          let rest = chunk_from_lies (number + 1) starts chunks address (omega (arith, e)) in
          record {
            place = suc rest.place;
            is = ap (λ b. cond b number (chunk_from (number + 1) starts chunks address)) other ∙ omega (arith, rest.is);
            lies = elim rest.lies [ inl there ↦ inl (omega (arith, there.0), record { low = there.1.low; high = there.1.high }) | inr past ↦ inr (omega (arith, past)) ];
          }
    ] refl

-- a chunk more changes no chunk of an address that lies in one before
pub chunk_from-append : (number : ℕ) (starts : List ℕ) (chunks : Heap) (address start : ℕ) (blocks : List Block) → length starts ≡ length chunks → (i : ℕ) → i < length chunks →
    chunk_from number starts chunks address ≡ number + i → chunk_from number (starts ++ start ∷ []) (chunks ++ blocks ∷ []) address ≡ number + i
chunk_from-append number starts [] address start blocks e i within is = absurd (omega (arith, within))
chunk_from-append number [] (c ∷ chunks) address start blocks e i within is = absurd (omega (arith, e))
chunk_from-append number (s ∷ starts) (c ∷ chunks) address start blocks e i within is =
    elim (nat_le s address && nat_lt address (s + bytes_in c)) as (λ b. cond b number (chunk_from (number + 1) starts chunks address) ≡ number + i →
    cond b number (chunk_from (number + 1) (starts ++ start ∷ []) (chunks ++ blocks ∷ []) address) ≡ number + i) [
      | true ↦ λ here. here
      | false ↦ λ there.
          let at = (chunk_from_lies (number + 1) starts chunks address (omega (arith, e))).is in
          let rest = chunk_from-append (number + 1) starts chunks address start blocks (omega (arith, e)) (i - 1) (omega (arith, within, there, at)) (omega (arith, there, at)) in
          omega (arith, rest, there, at)
    ] is

-- an address that lies in none lies in none before a chunk more
pub chunk_from_past : (number : ℕ) (starts : List ℕ) (chunks : Heap) (address start : ℕ) (blocks : List Block) → length starts ≡ length chunks →
    chunk_from number starts chunks address ≡ number + length chunks → number + length chunks ≤ chunk_from number (starts ++ start ∷ []) (chunks ++ blocks ∷ []) address
chunk_from_past number [] [] address start blocks e is = elim (nat_le start address && nat_lt address (start + bytes_in blocks)) as (λ b. number + 0 ≤ cond b number (number + 1)) [ true ↦ omega arith | false ↦ omega arith ]
chunk_from_past number [] (c ∷ chunks) address start blocks e is = absurd (omega (arith, e))
chunk_from_past number (s ∷ starts) [] address start blocks e is = absurd (omega (arith, e))
chunk_from_past number (s ∷ starts) (c ∷ chunks) address start blocks e is =
    elim (nat_le s address && nat_lt address (s + bytes_in c)) as (λ b. cond b number (chunk_from (number + 1) starts chunks address) ≡ number + length (c ∷ chunks) →
    number + length (c ∷ chunks) ≤ cond b number (chunk_from (number + 1) (starts ++ start ∷ []) (chunks ++ blocks ∷ []) address)) [
      | true ↦ λ here. absurd (omega (arith, here))
      | false ↦ λ there. omega (arith, chunk_from_past (number + 1) starts chunks address start blocks (omega (arith, e)) (omega (arith, there)))
    ] is

-- a chunk changed to one of as many bytes holds as many addresses
pub chunk_from-set : (number : ℕ) (starts : List ℕ) (chunks : Heap) (i : ℕ) (blocks : List Block) (address : ℕ) → bytes_in blocks ≡ bytes_in (chunk_of chunks i) →
    chunk_from number starts (set chunks i blocks) address ≡ chunk_from number starts chunks address
chunk_from-set number [] chunks i blocks address e = refl
chunk_from-set number (s ∷ starts) [] i blocks address e = refl
chunk_from-set number (s ∷ starts) (c ∷ chunks) zero blocks address e = ap (λ n. cond (nat_le s address && nat_lt address (s + n)) number (chunk_from (number + 1) starts chunks address)) e
chunk_from-set number (s ∷ starts) (c ∷ chunks) (suc i) blocks address e = grind (arith, nat_tests, chunk_from-set (number + 1) starts chunks i blocks address e)
