-- Slots with free ones behind them.
use Rattle.std.proofs.Common.{◌≡◌, ℕ, suc, ◌-◌, ◌<◌, ◌≤◌, true≢false, List, [], ◌∷◌, ◌++◌, length, replicate, get_or, set, Option, None, is_some, sym, ap, ◌∙◌, arith, inl, inr}
use Rattle.std.proofs.lemmas.Bool.{cases_lt}
use Rattle.std.proofs.lemmas.Bool.Decides.{nat_tests}
use Rattle.std.proofs.lemmas.List.{length-append, length-set, length-replicate, get_or-replicate, get_or-append_right, get_or_append_left, get_or_past, set-append_left, append_assoc}
use Rattle.std.proofs.Math.Seq.{set-append_seam}
use Rattle.cap_space.specs.Slots.{padded, IsTakenBefore}

module _ {X : Type 0} where
  -- a place has what its slot holds, or nothing
  pub get_or-padded : (slots : List (Option X)) (places place : ℕ) → get_or (padded slots places) place None ≡ get_or slots place None
  get_or-padded slots places place = grind (arith, nat_tests, cases_lt, get_or_append_left, get_or-append_right, get_or-replicate, get_or_past, length-replicate)

  -- there are as many slots as places
  pub length-padded : (slots : List (Option X)) (places : ℕ) → length slots ≤ places → length (padded slots places) ≡ places
  length-padded slots places fits =
      let long = length-append slots (replicate (places - length slots) None) in
      let rest = length-replicate {A = Option X} (places - length slots) None in
      omega (arith, long, rest, fits)

  -- where no place has been in use all are free
  pub padded_none : (slots : List (Option X)) (capacity places : ℕ) → slots ≡ [] → capacity ≡ places → padded slots capacity ≡ replicate places None
  padded_none slots capacity places none same =
      let all : capacity - length slots ≡ places = omega (arith, same, ap length none) in
      ap (λ n. slots ++ replicate n None) all ∙ ap (λ s. s ++ replicate places None) none

  -- a slot is written
  pub set-padded : (slots : List (Option X)) (places place : ℕ) (slot : Option X) → place < length slots → padded (set slots place slot) places ≡ set (padded slots places) place slot
  set-padded slots places place slot within =
      ap (λ n. set slots place slot ++ replicate (places - n) None) (length-set slots place slot) ∙ sym (set-append_left slots (replicate (places - length slots) None) place slot within)

  -- a slot more
  pub push-padded : (slots : List (Option X)) (places place : ℕ) (slot : Option X) → place ≡ length slots → place < places → padded (slots ++ slot ∷ []) places ≡ set (padded slots places) place slot
  push-padded slots places place slot at room =
      let long = length-append slots (slot ∷ []) in
      let one : places - length slots ≡ suc (places - length (slots ++ slot ∷ [])) = omega (arith, long, at, room) in
      append_assoc slots (slot ∷ []) (replicate (places - length (slots ++ slot ∷ [])) None)
      ∙ sym (set-append_seam slots None (replicate (places - length (slots ++ slot ∷ [])) None) slot)
      ∙ ap (λ n. set (slots ++ None ∷ replicate (places - length (slots ++ slot ∷ [])) None) n slot) (sym at)
      ∙ ap (λ n. set (slots ++ replicate n None) place slot) (sym one)

  -- where all before a place are taken, it is one that has been in use or the next
  pub next_place : (slots : List (Option X)) (places place : ℕ) → IsTakenBefore (padded slots places) place → place ≤ length slots
  next_place slots places place before = elim (cases_lt (length slots) place) as (λ _. place ≤ length slots) [
    | inl past ↦ absurd (true≢false (sym (before (length slots) past) ∙ ap is_some (get_or-padded slots places (length slots) ∙ get_or_past slots (length slots) None (omega arith))))
    | inr within ↦ within
  ]

-- what a write of a slot takes of these
pub ruleset padded_slots = (nat_tests, set-padded, push-padded)
