-- What a list of slots holds by their numbers.
use Rattle.std.proofs.Common.{◌≡◌, ℕ, zero, suc, ◌+◌, ◌<◌, cond, List, [], ◌∷◌, get_or, Some, is_some, count_by, refl, ap, ◌∙◌, arith}
use Rattle.std.proofs.lemmas.Bool.Decides.{nat_tests}
use Rattle.std.proofs.lemmas.List.Sums.{sum_by-cons}
use Rattle.std.specs.Prelude.{Option, None}
use Rattle.std.specs.Ordering.{nat_cmp}
use Rattle.std.specs.Cmp.{nat_cmp_total}
use Rattle.std.specs.FinMap.{get, insert, len, from_entries, get-from_entries, len-insert, len-empty}
use Rattle.own_model.specs.Entries.{value_of}
use Rattle.own_model.proofs.EntryLemmas.{value_of-cons, value_of_first, value_of_later}
use Rattle.own_model.specs.Slots.{taken_from, held_from}

module _ {X : Type 0} where
  -- a number below the first slot's has no entry
  find_below : (q first : ℕ) (slots : List (Option X)) → q < first → value_of q (taken_from first slots) ≡ None
  find_below q first [] below = refl
  find_below q first (None ∷ rest) below = find_below q (first + 1) rest (omega arith)
  find_below q first (Some x ∷ rest) below = grind (arith, nat_tests, value_of-cons, find_below q (first + 1) rest (omega arith))

  -- a slot's number answers what is in the slot
  find_slot : (place first : ℕ) (slots : List (Option X)) → value_of (first + place) (taken_from first slots) ≡ get_or slots place None
  find_slot place first [] = refl
  find_slot zero first (None ∷ rest) = find_below (first + 0) (first + 1) rest (omega arith)
  find_slot zero first (Some x ∷ rest) = value_of_first (first + 0) (first, x) (taken_from (first + 1) rest) (grind (arith, nat_tests))
  find_slot (suc place) first (None ∷ rest) = grind (arith, nat_tests, find_slot place (first + 1) rest)
  find_slot (suc place) first (Some x ∷ rest) = grind (arith, nat_tests, value_of_later, find_slot place (first + 1) rest)

  -- nothing has a number below the first
  pub get-held_from_below : (first : ℕ) (slots : List (Option X)) (q : ℕ) → q < first → get (held_from first slots) q ≡ None
  unfolding held_from
  get-held_from_below first slots q below = get-from_entries nat_cmp_total (taken_from first slots) q ∙ find_below q first slots below

  -- a number from the first on has what its slot holds
  pub get-held_from : (first : ℕ) (slots : List (Option X)) (place q : ℕ) → first + place ≡ q → get (held_from first slots) q ≡ get_or slots place None
  unfolding held_from
  get-held_from first slots place q number = cc (get-from_entries nat_cmp_total (taken_from first slots) q, rw number at (find_slot place first slots))

  -- one entry more for a slot that is taken
  len_taken : (first : ℕ) (slots : List (Option X)) → len (from_entries {R = nat_cmp} (taken_from first slots)) ≡ count_by is_some slots
  len_taken first [] = len-empty nat_cmp X
  len_taken first (None ∷ rest) = omega (arith, len_taken (first + 1) rest, sum_by-cons (λ o. cond (is_some o) 1 0) None rest)
  len_taken first (Some x ∷ rest) =
      let m = from_entries {R = nat_cmp} (taken_from (first + 1) rest) in
      let free : get m first ≡ None = get-from_entries nat_cmp_total (taken_from (first + 1) rest) first ∙ find_below first (first + 1) rest (omega arith) in
      let more : len (insert m first x) ≡ len m + 1 = len-insert nat_cmp_total m first x ∙ ap (λ o. cond (is_some o) (len m) (len m + 1)) free in
      omega (arith, more, len_taken (first + 1) rest, sum_by-cons (λ o. cond (is_some o) 1 0) (Some x) rest)

  -- as much is held as slots are taken
  pub len-held_from : (first : ℕ) (slots : List (Option X)) → len (held_from first slots) ≡ count_by is_some slots
  unfolding held_from
  len-held_from first slots = len_taken first slots
