-- Sums over what a map holds: after a change, compared, and by who pays.
use Rattle.std.proofs.Common.{◌≡◌, ℕ, ◌+◌, ◌*◌, ◌≤◌, ◌≢◌, cond, eqb, List, [], ◌∷◌, map, IsSome, is_some, Some, unwrap_or, refl, sym, ap, ◌∙◌, true≢false, nat_cmp, is_eq, Less, Equal, Greater, arith, add-zero, add-mul}
use Rattle.std.proofs.lemmas.Bool.Decides.{nat_tests}
use Rattle.std.proofs.lemmas.List.Sums.{sum_by-cons}
use Rattle.std.proofs.lemmas.Option.{none-some}
use Rattle.std.specs.Prelude.{Option, None, sum_by}
use Rattle.std.specs.Option.{option_map}
use Rattle.std.specs.Cmp.{nat_cmp_total}
use Rattle.std.specs.FinMap.{get, insert, remove, empty, entries, len, len-empty, len-entries, len-insert, len-remove, get-entries, entries-insert, find}
use Rattle.std.specs.FinMap.Entries.{put, by_order}
use Rattle.std.proofs.lemmas.List.{nil_from_length}
use Rattle.own_model.specs.NatMap.{NatMap, total, picked, owed}
use Rattle.own_model.proofs.NatMapLemmas.{natmaps, get-empty, get-insert, get-insert_same, get-insert_other, get-remove_same, insert-remove, insert_back, apart_from_free, before_remove, by_insertions, picked-empty, picked-insert_some, picked-insert_hidden, get-picked_none}

-- ---- after a change

-- the first of three numbers may be added last
swapped : (a b c : ℕ) → a + (b + c) ≡ (b + c) + a
swapped a b c = omega arith

-- what is added to a sum may be added to its first part
inward : (a b c d : ℕ) → b ≡ c + d → a + b ≡ (a + c) + d
inward a b c d e = omega arith

module _ {X : Type 0} where
  -- an entry whose key is new adds its own
  sum-put : (f : X → ℕ) (k : ℕ) (v : X) (es : List (ℕ × X)) → find nat_cmp k es ≡ None → sum_by f (map (λ e. e.1) (put nat_cmp k v es)) ≡ sum_by f (map (λ e. e.1) es) + f v
  sum-put f k v [] free = refl
  sum-put f k v (e ∷ es) free =
      let rest = map (λ (p : ℕ × X). p.1) es in
      elim (nat_cmp k e.0) as (λ o. cond (is_eq o) (Some e.1) (find nat_cmp k es) ≡ None → sum_by f (map (λ p. p.1) (by_order o ((k, v) ∷ e ∷ es) ((e.0, v) ∷ es) (e ∷ put nat_cmp k v es))) ≡ sum_by f (e.1 ∷ rest) + f v) [
        | Less ↦ λ _. sum_by-cons f v (e.1 ∷ rest) ∙ ap (λ s. f v + s) (sum_by-cons f e.1 rest) ∙ swapped _ _ _ ∙ ap (λ s. s + f v) (sym (sum_by-cons f e.1 rest))
        | Equal ↦ λ h. absurd (none-some e.1 (sym h))
        | Greater ↦ λ h. sum_by-cons f e.1 (map (λ (p : ℕ × X). p.1) (put nat_cmp k v es)) ∙ inward _ _ _ _ (sum-put f k v es h) ∙ ap (λ s. s + f v) (sym (sum_by-cons f e.1 rest))
      ] free

  -- the sum over the empty map is 0
  pub total-empty : (f : X → ℕ) → total f (empty {R = nat_cmp}) ≡ 0
  unfolding total
  total-empty f = ap (λ es. sum_by f (map (λ e. e.1) es)) (nil_from_length (entries (empty {R = nat_cmp})) (sym (len-entries empty) ∙ len-empty nat_cmp X))

  -- a value under a free key adds its own
  pub total-insert_new : (f : X → ℕ) (m : NatMap X) (k : ℕ) (v : X) → get m k ≡ None → total f (insert m k v) ≡ total f m + f v
  unfolding total
  total-insert_new f m k v free = ap (λ es. sum_by f (map (λ e. e.1) es)) (entries-insert nat_cmp_total m k v) ∙ sum-put f k v (entries m) (sym (get-entries m k) ∙ free)

  -- a map as the insertion that gave it a key
  put_back : (m : NatMap X) (k : ℕ) (w : X) → get m k ≡ Some w → insert (remove m k) k w ≡ m
  put_back m k w there = insert-remove m k w ∙ insert_back m k w there

  -- what is removed takes its own away
  pub total-remove : (f : X → ℕ) (m : NatMap X) (k : ℕ) (w : X) → get m k ≡ Some w → total f (remove m k) + f w ≡ total f m
  total-remove f m k w there = sym (total-insert_new f (remove m k) k w (get-remove_same m k k refl)) ∙ ap (total f) (put_back m k w there)

  -- another value under a key comes in place of the old one
  pub total-insert_at : (f : X → ℕ) (m : NatMap X) (k : ℕ) (v w : X) → get m k ≡ Some w → total f (insert m k v) + f w ≡ total f m + f v
  total-insert_at f m k v w there =
      let new : total f (insert m k v) ≡ total f (remove m k) + f v = ap (total f) (sym (insert-remove m k v)) ∙ total-insert_new f (remove m k) k v (get-remove_same m k k refl) in
      let old = total-remove f m k w there in
      omega arith

  -- a value of the same size in place of the old one leaves the sum
  pub total-insert_same : (f : X → ℕ) (m : NatMap X) (k : ℕ) (v w : X) → get m k ≡ Some w → f v ≡ f w → total f (insert m k v) ≡ total f m
  total-insert_same f m k v w there e = grind (arith, nat_tests, total-insert_at)

  -- what one value parts with for a new one leaves the sum
  pub total_parted : (f : X → ℕ) (m : NatMap X) (k l : ℕ) (v w new : X) → get m k ≡ Some w → get m l ≡ None → f v + f new ≡ f w → total f (insert (insert m k v) l new) ≡ total f m
  total_parted f m k l v w new there free e = grind (arith, nat_tests, apart_from_free, natmaps, total-insert_new, total-insert_at)

  -- each value is within the sum
  pub total_at_le : (f : X → ℕ) (m : NatMap X) (k : ℕ) (v : X) → get m k ≡ Some v → f v ≤ total f m
  total_at_le f m k v there = omega (arith, total-remove f m k v there)

-- ---- how many

module _ {X : Type 0} where
  -- a free key that is filled is one more
  pub len-insert_new : (m : NatMap X) (k : ℕ) (v : X) → get m k ≡ None → len (insert m k v) ≡ len m + 1
  len-insert_new m k v free = rw free at (len-insert nat_cmp_total m k v)

  -- another value under a key is no more
  pub len-insert_at : (m : NatMap X) (k : ℕ) (v w : X) → get m k ≡ Some w → len (insert m k v) ≡ len m
  len-insert_at m k v w there = rw there at (len-insert nat_cmp_total m k v)

  -- a key that goes is one less
  pub len-remove_at : (m : NatMap X) (k : ℕ) (w : X) → get m k ≡ Some w → len (remove m k) + 1 ≡ len m
  len-remove_at m k w there = sym (len-insert_new (remove m k) k w (get-remove_same m k k refl)) ∙ ap len (put_back m k w there)

  -- after a removal there are no more
  pub len-remove_le : (m : NatMap X) (k : ℕ) → len (remove m k) ≤ len m
  len-remove_le m k = grind (arith, len-remove nat_cmp_total m k)

  -- a map has as many values as ones
  pub len-total : (m : NatMap X) → len m ≡ total (λ v. 1) m
  len-total m = by_insertions (λ n. len n ≡ total (λ v. 1) n)
      (len-empty nat_cmp X ∙ sym (total-empty (λ v. 1)))
      (λ n k v free e. len-insert_new n k v free ∙ ap (λ s. s + 1) e ∙ sym (total-insert_new (λ v. 1) n k v free)) m

-- ---- compared

module _ {X : Type 0} where
  -- what holds of each value after a free key was filled holds of each before
  before_insert : (P : ℕ → X → Type 0) (m : NatMap X) (k : ℕ) (v : X) → get m k ≡ None → ((q : ℕ) (w : X) → get (insert m k v) q ≡ Some w → P q w) → (q : ℕ) (w : X) → get m q ≡ Some w → P q w
  before_insert P m k v free each q w there = grind (arith, nat_tests, get-insert_other, apart_from_free)

  -- larger values have a larger sum
  pub total_le : (f g : X → ℕ) (m : NatMap X) → ((k : ℕ) (v : X) → get m k ≡ Some v → f v ≤ g v) → total f m ≤ total g m
  total_le f g = by_insertions (λ m. ((k : ℕ) (v : X) → get m k ≡ Some v → f v ≤ g v) → total f m ≤ total g m)
      (λ _. omega (arith, total-empty f, total-empty g))
      (λ m k v free rest each.
      let before = rest (before_insert (λ q w. f w ≤ g w) m k v free each) in
      let here = each k v (get-insert_same m k v k refl) in
      omega (arith, total-insert_new f m k v free, total-insert_new g m k v free))

  -- where each size so many times is within another, so are the sums
  pub total_times_le : (f g : X → ℕ) (n : ℕ) (m : NatMap X) → ((k : ℕ) (v : X) → get m k ≡ Some v → f v * n ≤ g v) → total f m * n ≤ total g m
  total_times_le f g n = by_insertions (λ m. ((k : ℕ) (v : X) → get m k ≡ Some v → f v * n ≤ g v) → total f m * n ≤ total g m)
      (λ _. rw (total-empty f) (omega arith))
      (λ m k v free rest each.
      let before = rest (before_insert (λ q w. f w * n ≤ g w) m k v free each) in
      let here = each k v (get-insert_same m k v k refl) in
      rw (total-insert_new f m k v free, total-insert_new g m k v free, add-mul) (omega arith))

  -- values of equal sizes have equal sums
  pub total_same : (f g : X → ℕ) (m : NatMap X) → ((k : ℕ) (v : X) → get m k ≡ Some v → f v ≡ g v) → total f m ≡ total g m
  total_same f g m each = grind (arith, nat_tests, total_le)

  -- sizes of 0 add up to 0
  pub total-zero : (m : NatMap X) → total (λ v. 0) m ≡ 0
  total-zero = by_insertions (λ m. total (λ v. 0) m ≡ 0) (total-empty (λ v. 0)) (λ m k v free e. omega (arith, total-insert_new (λ (v : X). 0) m k v free))

  -- the sum of sums
  pub total-add : (f g : X → ℕ) (m : NatMap X) → total (λ v. f v + g v) m ≡ total f m + total g m
  total-add f g = by_insertions (λ m. total (λ v. f v + g v) m ≡ total f m + total g m)
      (omega (arith, total-empty f, total-empty g, total-empty (λ (v : X). f v + g v)))
      (λ m k v free e. omega (arith, total-insert_new f m k v free, total-insert_new g m k v free, total-insert_new (λ (v : X). f v + g v) m k v free))

  -- what one value has to spare the sums have to spare, where no value overdraws
  pub total_spare : (f g : X → ℕ) (m : NatMap X) (k : ℕ) (v : X) (n : ℕ) → get m k ≡ Some v → f v + n ≤ g v → ((q : ℕ) (w : X) → get m q ≡ Some w → f w ≤ g w) → total f m + n ≤ total g m
  total_spare f g m k v n there room each =
      let others = total_le f g (remove m k) (λ q w is. each q w (before_remove m k q w is)) in
      omega (arith, total-remove f m k v there, total-remove g m k v there)

-- ---- over what is picked

-- what an option counts is within n, where its value is
within_by : {Y : Type 0} (g : Y → ℕ) (n : ℕ) (o : Option Y) → ((y : Y) → o ≡ Some y → g y ≤ n) → unwrap_or (option_map g o) 0 ≤ n
within_by g n None each = omega arith
within_by g n (Some y) each = each y refl

module _ {X Y : Type 0} where
  -- a value more adds to a picked map's sum what is picked of it
  picked_more : (g : Y → ℕ) (p : X → Option Y) (m : NatMap X) (k : ℕ) (v : X) → get m k ≡ None → (o : Option Y) → p v ≡ o → total g (picked p (insert m k v)) ≡ total g (picked p m) + unwrap_or (option_map g o) 0
  picked_more g p m k v free None e = ap (total g) (picked-insert_hidden p m k v e (get-picked_none p m k free)) ∙ sym (add-zero _)
  picked_more g p m k v free (Some y) e = ap (total g) (picked-insert_some p m k v y e) ∙ total-insert_new g (picked p m) k y (get-picked_none p m k free)

  -- a picked map's sum, over the map that it is picked from
  pub total-picked : (g : Y → ℕ) (p : X → Option Y) (m : NatMap X) → total g (picked p m) ≡ total (λ v. unwrap_or (option_map g (p v)) 0) m
  total-picked g p = by_insertions (λ m. total g (picked p m) ≡ total (λ v. unwrap_or (option_map g (p v)) 0) m)
      (ap (total g) (picked-empty p) ∙ total-empty g ∙ sym (total-empty (λ (v : X). unwrap_or (option_map g (p v)) 0)))
      (λ m k v free e. picked_more g p m k v free (p v) refl ∙ ap (λ s. s + unwrap_or (option_map g (p v)) 0) e ∙ sym (total-insert_new (λ v. unwrap_or (option_map g (p v)) 0) m k v free))

  -- a picked map's sum is within that of the map, where each that is picked is within its own
  pub total-picked_le : (g : Y → ℕ) (f : X → ℕ) (p : X → Option Y) (m : NatMap X) → ((v : X) (y : Y) → p v ≡ Some y → g y ≤ f v) → total g (picked p m) ≤ total f m
  total-picked_le g f p m each = grind (arith, nat_tests, total_le, within_by, total-picked)

-- ---- by who pays

module _ {S : Type 0} (size payer : S → ℕ) where
  -- what is owed, as a sum
  pub owed-total : (m : NatMap S) (k : ℕ) → owed size payer m k ≡ total (λ s. cond (eqb (payer s) k) (size s) 0) m
  unfolding owed
  owed-total m k = refl

  -- of nothing nothing is owed
  pub owed-empty : (k : ℕ) → owed size payer (empty {R = nat_cmp}) k ≡ 0
  unfolding owed
  owed-empty k = total-empty (λ s. cond (eqb (payer s) k) (size s) 0)

  -- a new value is owed by its payer
  pub owed-insert_new : (m : NatMap S) (d : ℕ) (s : S) (k : ℕ) → get m d ≡ None → owed size payer (insert m d s) k ≡ owed size payer m k + cond (eqb (payer s) k) (size s) 0
  unfolding owed
  owed-insert_new m d s k free = total-insert_new (λ s. cond (eqb (payer s) k) (size s) 0) m d s free

  -- another value in place of the old one: its payer owes it, and the payer of the old one owes that no more
  pub owed-insert_at : (m : NatMap S) (d : ℕ) (s t : S) (k : ℕ) → get m d ≡ Some t → owed size payer (insert m d s) k + cond (eqb (payer t) k) (size t) 0 ≡ owed size payer m k + cond (eqb (payer s) k) (size s) 0
  unfolding owed
  owed-insert_at m d s t k there = total-insert_at (λ s. cond (eqb (payer s) k) (size s) 0) m d s t there

  -- a value of the same payer and size in place of the old one leaves what is owed
  pub owed-insert_same : (m : NatMap S) (d : ℕ) (s t : S) (k : ℕ) → get m d ≡ Some t → payer s ≡ payer t → size s ≡ size t → owed size payer (insert m d s) k ≡ owed size payer m k
  unfolding owed
  owed-insert_same m d s t k there p n = total-insert_same (λ s. cond (eqb (payer s) k) (size s) 0) m d s t there (λ i. cond (eqb (p i) k) (n i) 0)

  -- what is removed its payer owes no more
  pub owed-remove : (m : NatMap S) (d : ℕ) (s : S) (k : ℕ) → get m d ≡ Some s → owed size payer (remove m d) k + cond (eqb (payer s) k) (size s) 0 ≡ owed size payer m k
  unfolding owed
  owed-remove m d s k there = total-remove (λ s. cond (eqb (payer s) k) (size s) 0) m d s there

  -- who pays for nothing owes nothing
  pub owed_nothing : (m : NatMap S) (k : ℕ) → ((d : ℕ) (s : S) → get m d ≡ Some s → payer s ≢ k) → owed size payer m k ≡ 0
  unfolding owed
  owed_nothing m k apart = total_same _ _ m (λ d s there. let other = apart d s there in grind (arith, nat_tests)) ∙ total-zero m

  -- each value is within what its payer owes
  pub owed_at_le : (m : NatMap S) (d : ℕ) (s : S) (k : ℕ) → get m d ≡ Some s → payer s ≡ k → size s ≤ owed size payer m k
  unfolding owed
  owed_at_le m d s k there e = grind (arith, nat_tests, total_at_le)

  -- a sum is what one payer owes and what the others owe
  pub owed_and_others : (m : NatMap S) (k : ℕ) → total size m ≡ owed size payer m k + total (λ s. cond (eqb (payer s) k) 0 (size s)) m
  unfolding owed
  owed_and_others m k = total_same size (λ s. cond (eqb (payer s) k) (size s) 0 + cond (eqb (payer s) k) 0 (size s)) m (λ d s there. grind (arith, nat_tests)) ∙ total-add _ _ m

module _ {S : Type 0} (payer : S → ℕ) where
  -- the sizes of those that one payer does not pay for
  abbrev size_of_others : (S → ℕ) → ℕ → S → ℕ
  size_of_others size k s = cond (eqb (payer s) k) 0 (size s)

  -- the others owe what they owed
  owed-others : (size : S → ℕ) (m : NatMap S) (k j : ℕ) → j ≢ k → owed (size_of_others size k) payer m j ≡ owed size payer m j
  unfolding owed
  owed-others size m k j apart = total_same _ _ m (λ d s there. grind (arith, nat_tests))

  -- each value is free of size, or its payer is there
  abbrev Covered : {A : Type 0} → (S → ℕ) → NatMap S → NatMap A → Type 0
  Covered size m accounts = (d : ℕ) (s : S) → get m d ≡ Some s → get accounts (payer s) ≡ None → size s ≡ 0

  -- what one account pays for left out, the other accounts cover the rest
  covered_by_others : {A : Type 0} (size : S → ℕ) (m : NatMap S) (accounts : NatMap A) (k : ℕ) (a : A) → Covered size m (insert accounts k a) → Covered (size_of_others size k) m accounts
  covered_by_others size m accounts k a covered d s there free = grind (arith, nat_tests, get-insert)

  -- where there are no accounts, all that is covered adds up to 0
  covered_by_none : {A : Type 0} (size : S → ℕ) (m : NatMap S) → Covered {A = A} size m empty → total size m ≡ 0
  covered_by_none size m covered = total_same size (λ s. 0) m (λ d s there. covered d s there (get-empty (payer s))) ∙ total-zero m

  module _ {A : Type 0} (spaces : NatMap S) (paid : A → ℕ) where
    -- each account pays for at least what it owes
    abbrev Within : (S → ℕ) → NatMap A → Type 0
    Within size accounts = (k : ℕ) (a : A) → get accounts k ≡ Some a → owed size payer spaces k ≤ paid a

    -- each account pays for no more than it owes
    abbrev Over : (S → ℕ) → NatMap A → Type 0
    Over size accounts = (k : ℕ) (a : A) → get accounts k ≡ Some a → paid a ≤ owed size payer spaces k

    -- accounts that cover all and pay for at least what they owe pay for at least all sizes
    sized_within : (accounts : NatMap A) (size : S → ℕ) → Covered size spaces accounts → Within size accounts → total size spaces ≤ total paid accounts
    sized_within = by_insertions (λ accounts. (size : S → ℕ) → Covered size spaces accounts → Within size accounts → total size spaces ≤ total paid accounts)
        (λ size covered within. omega (arith, covered_by_none size spaces covered))
        (λ accounts k a free rest size covered within.
        let here = within k a (get-insert_same accounts k a k refl) in
        let others = rest (size_of_others size k) (covered_by_others size spaces accounts k a covered)
        (λ j b there.
        let apart = apart_from_free accounts k j free (ap is_some there) in
        let each = within j b (get-insert_other accounts k a j apart ∙ there) in
        omega (arith, owed-others size spaces k j apart)) in
        omega (arith, owed_and_others size payer spaces k, total-insert_new paid accounts k a free))

    -- accounts that pay for no more than they owe pay for no more than all sizes
    paid_within : (accounts : NatMap A) (size : S → ℕ) → Over size accounts → total paid accounts ≤ total size spaces
    paid_within = by_insertions (λ accounts. (size : S → ℕ) → Over size accounts → total paid accounts ≤ total size spaces)
        (λ size over. omega (arith, total-empty paid))
        (λ accounts k a free rest size over.
        let here = over k a (get-insert_same accounts k a k refl) in
        let others = rest (size_of_others size k)
        (λ j b there.
        let apart = apart_from_free accounts k j free (ap is_some there) in
        let each = over j b (get-insert_other accounts k a j apart ∙ there) in
        omega (arith, owed-others size spaces k j apart)) in
        omega (arith, owed_and_others size payer spaces k, total-insert_new paid accounts k a free))

-- what all owe and what all pay
module _ {S A : Type 0} (size payer : S → ℕ) (paid : A → ℕ) (spaces : NatMap S) (accounts : NatMap A) where
  -- where each payer is there, all is covered
  all_covered : ((d : ℕ) (s : S) → get spaces d ≡ Some s → IsSome (get accounts (payer s))) → Covered payer size spaces accounts
  all_covered payers d s there free = absurd (true≢false (sym (payers d s there) ∙ ap is_some free))

  -- where each payer is there and pays for at least what it owes, all is paid for
  pub total_owed_le : ((d : ℕ) (s : S) → get spaces d ≡ Some s → IsSome (get accounts (payer s))) → ((k : ℕ) (a : A) → get accounts k ≡ Some a → owed size payer spaces k ≤ paid a) → total size spaces ≤ total paid accounts
  total_owed_le payers within = sized_within payer spaces paid accounts size (all_covered payers) within

  -- where each pays for no more than it owes, no more is paid for than there is
  pub total_owed_ge : ((k : ℕ) (a : A) → get accounts k ≡ Some a → paid a ≤ owed size payer spaces k) → total paid accounts ≤ total size spaces
  total_owed_ge over = paid_within payer spaces paid accounts size over

  -- where each payer is there and pays for exactly what it owes, all is paid for exactly
  pub total-owed : ((d : ℕ) (s : S) → get spaces d ≡ Some s → IsSome (get accounts (payer s))) → ((k : ℕ) (a : A) → get accounts k ≡ Some a → owed size payer spaces k ≡ paid a) → total size spaces ≡ total paid accounts
  total-owed payers exact = grind (arith, nat_tests, total_owed_le, total_owed_ge)

-- the equations by which `grind` reads totals
pub ruleset totals = (total-empty, total-insert_new, total-insert_at, total-remove, owed-empty, owed-insert_new, owed-insert_at, owed-remove, len-insert_new, len-insert_at, len-remove_at)
