-- What a map with moved keys answers.
use Rattle.std.proofs.Common.{◌≡◌, ◌≤◌, ◌<◌, ◌+◌, ◌-◌, ℕ, eqb, List, [], ◌∷◌, refl, sym, ◌∙◌, ⊎_elim, arith}
use Rattle.std.proofs.lemmas.Bool.{cases_lt}
use Rattle.std.proofs.lemmas.Bool.Decides.{nat_tests}
use Rattle.std.specs.Prelude.{None, map}
use Rattle.std.specs.Cmp.{nat_cmp_total}
use Rattle.std.specs.FinMap as finmap
use Rattle.std.specs.FinMap.{get, insert, remove, entries, get-entries}
use Rattle.own_model.specs.NatMap.{NatMap}
use Rattle.own_model.specs.Moved.{moved_up}
use Rattle.own_model.proofs.NatMapLemmas.{same, natmaps}
use Rattle.own_model.proofs.EntryLemmas.{value_of, value_of-cons, value_of_later}

-- moved keys are equal where the keys are
eqb-moved : (by a b : ℕ) → eqb (a + by) (b + by) ≡ eqb a b
eqb-moved by a b = grind (arith, nat_tests)

module _ {X : Type 0} (by : ℕ) where
  -- among moved entries a moved key has what the key had
  value_of-moved : (q : ℕ) (es : List (ℕ × X)) → value_of (q + by) (map (λ e. (e.0 + by, e.1)) es) ≡ value_of q es
  value_of-moved q [] = refl
  value_of-moved q (e ∷ es) = grind (arith, nat_tests, value_of-cons, value_of, eqb-moved, value_of-moved q es)

  -- and a key below all moved ones has nothing
  value_of-below : (q : ℕ) (es : List (ℕ × X)) → q < by → value_of q (map (λ e. (e.0 + by, e.1)) es) ≡ None
  value_of-below q [] low = refl
  value_of-below q (e ∷ es) low = grind (arith, nat_tests, value_of_later, value_of-below q es low)

  -- a moved key has what the key had
  pub get-moved_up : (m : NatMap X) (q : ℕ) → get (moved_up by m) (q + by) ≡ get m q
  unfolding moved_up
  get-moved_up m q = finmap.get-from_entries nat_cmp_total _ (q + by) ∙ value_of-moved q (entries m) ∙ sym (get-entries m q)

  -- a key below the move has nothing
  pub get-moved_up_below : (m : NatMap X) (q : ℕ) → q < by → get (moved_up by m) q ≡ None
  unfolding moved_up
  get-moved_up_below m q low = finmap.get-from_entries nat_cmp_total _ q ∙ value_of-below q (entries m) low

  -- maps that answer alike at each moved key, and nothing below, are equal
  pub same_moved : (m n : NatMap X) → ((q : ℕ) → get m (q + by) ≡ get n (q + by)) → ((q : ℕ) → q < by → get m q ≡ get n q) → m ≡ n
  same_moved m n above below = same m n (λ q. ⊎_elim
      (λ (low : q < by). below q low)
      (λ (high : by ≤ q). let e : q ≡ (q - by) + by = omega arith in rw e (above (q - by)))
      (cases_lt q by))

  -- what is inserted is moved
  pub moved_up-insert : (m : NatMap X) (k : ℕ) (v : X) → moved_up by (insert m k v) ≡ insert (moved_up by m) (k + by) v
  moved_up-insert m k v = grind (arith, nat_tests, same_moved, get-moved_up, natmaps, get-moved_up_below)

  -- and so is what is removed
  pub moved_up-remove : (m : NatMap X) (k : ℕ) → moved_up by (remove m k) ≡ remove (moved_up by m) (k + by)
  moved_up-remove m k = grind (arith, nat_tests, same_moved, get-moved_up, natmaps, get-moved_up_below)

-- the equations by which `grind` reads a map with moved keys
pub ruleset moves = (natmaps, get-moved_up, get-moved_up_below)
