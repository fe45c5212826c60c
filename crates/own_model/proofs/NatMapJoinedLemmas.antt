-- What two maps have together.
use Rattle.std.proofs.Common.{rules, ◌≡◌, ℕ, ◌+◌, ◌≤◌, ◌++◌, Some, refl, sym, ap, ◌∙◌, inl, inr, ◌⊎◌, arith, eqb-true}
use Rattle.std.proofs.lemmas.Bool.{cases_eq}
use Rattle.std.proofs.lemmas.Option.{none-some}
use Rattle.std.specs.Prelude.{Option, None}
use Rattle.std.specs.Cmp.{nat_cmp_total}
use Rattle.std.specs.Option.{option_or}
use Rattle.std.specs.FinMap.{get, insert, empty, entries, get-entries, get-from_entries}
use Rattle.own_model.proofs.EntryLemmas.{value_of-append}
use Rattle.own_model.proofs.NatMapLemmas.{same, get-empty, get-insert, get-insert_other, apart_from_free, by_insertions}
use Rattle.own_model.proofs.Totals.{total-insert_new, total-insert_at}
use Rattle.own_model.specs.Entries.{value_of}
use Rattle.own_model.specs.NatMap.{NatMap, joined, total}
use Rattle.own_model.specs.Sound.{KeysApart}

-- an option, or else another one: there is none where there is neither
pub neither_is : {X : Type 0} (o p : Option X) → option_or o p ≡ None → (o ≡ None) × (p ≡ None)
neither_is None p is = (refl, is)
neither_is (Some x) p is = absurd (none-some x (sym is))

-- what there is comes from one of the two
pub from_either : {X : Type 0} (o p : Option X) (x : X) → option_or o p ≡ Some x → (o ≡ Some x) ⊎ (p ≡ Some x)
from_either None p x is = inr is
from_either (Some y) p x is = inl is

-- an option, or else nothing
pub or_nothing : {X : Type 0} (o : Option X) → option_or o None ≡ o
or_nothing None = refl
or_nothing (Some x) = refl

module _ {X : Type 0} where
  -- one value more adds no more than its own
  pub total-insert_le : (f : X → ℕ) (m : NatMap X) (k : ℕ) (v : X) → total f (insert m k v) ≤ total f m + f v
  total-insert_le f m k v = search (rules, total-insert_new, total-insert_at)

  -- what two maps have under a key
  pub get-joined : (m n : NatMap X) (q : ℕ) → get (joined m n) q ≡ option_or (get m q) (get n q)
  unfolding joined
  get-joined m n q =
      get-from_entries nat_cmp_total (entries m ++ entries n) q ∙ value_of-append q (entries m) (entries n)
      ∙ ap (λ o. option_or o (value_of q (entries n))) (sym (get-entries m q)) ∙ ap (option_or (get m q)) (sym (get-entries n q))

  -- a key that is in the first
  pub get-joined_first : (m n : NatMap X) (q : ℕ) (x : X) → get m q ≡ Some x → get (joined m n) q ≡ Some x
  get-joined_first m n q x there = get-joined m n q ∙ ap (λ o. option_or o (get n q)) there

  -- and one that isn't
  pub get-joined_second : (m n : NatMap X) (q : ℕ) → get m q ≡ None → get (joined m n) q ≡ get n q
  get-joined_second m n q free = get-joined m n q ∙ ap (λ o. option_or o (get n q)) free

  -- a key that is in neither is free in both
  pub joined_free : (m n : NatMap X) (q : ℕ) → get (joined m n) q ≡ None → (get m q ≡ None) × (get n q ≡ None)
  joined_free m n q free = neither_is (get m q) (get n q) (sym (get-joined m n q) ∙ free)

  -- with nothing a map is itself
  pub joined-empty : (m : NatMap X) → joined m empty ≡ m
  joined-empty m = same _ _ (λ q. get-joined m empty q ∙ ap (option_or (get m q)) (get-empty q) ∙ or_nothing (get m q))

  -- and nothing with a map is the map
  pub empty-joined : (n : NatMap X) → joined empty n ≡ n
  empty-joined n = same _ _ (λ q. get-joined_second empty n q (get-empty q))

  -- one more in the first
  pub joined-insert_first : (m n : NatMap X) (k : ℕ) (v : X) → joined (insert m k v) n ≡ insert (joined m n) k v
  joined-insert_first m n k v = search (rules, same, get-joined, get-insert)

  -- one more in the second, under a key that the first hasn't
  pub joined-insert_second : (m n : NatMap X) (k : ℕ) (v : X) → get m k ≡ None → joined m (insert n k v) ≡ insert (joined m n) k v
  joined-insert_second m n k v free = search (rules, same, get-joined, get-insert, eqb-true)

  -- what the second has, where no key is in both
  pub get-joined_apart : (m n : NatMap X) (q : ℕ) (x : X) → KeysApart m n → get n q ≡ Some x → get (joined m n) q ≡ Some x
  get-joined_apart m n q x apart there = search (rules, get-joined_second, none-some)

  -- what fewer maps have together was there before, where no key was in both
  pub joined_before : (m n m' n' : NatMap X) → KeysApart m n → ((q : ℕ) (x : X) → get m' q ≡ Some x → get m q ≡ Some x) → ((q : ℕ) (x : X) → get n' q ≡ Some x → get n q ≡ Some x) →
      (q : ℕ) (x : X) → get (joined m' n') q ≡ Some x → get (joined m n) q ≡ Some x
  joined_before m n m' n' apart first second q x there = search (rules, from_either, get-joined, get-joined_first, get-joined_apart)

  -- a key more of the first, that the second hasn't
  pub KeysApart-insert_first : (m n : NatMap X) (k : ℕ) (v : X) → KeysApart m n → get n k ≡ None → KeysApart (insert m k v) n
  KeysApart-insert_first m n k v apart free q some = search (rules, cases_eq, get-insert_other)

  -- a key more of the second, that the first hasn't
  pub KeysApart-insert_second : (m n : NatMap X) (k : ℕ) (v : X) → KeysApart m n → get m k ≡ None → KeysApart m (insert n k v)
  KeysApart-insert_second m n k v apart free q some = get-insert_other n k v q (apart_from_free m k q free some) ∙ apart q some

  -- a sum over two maps together is no more than the two sums
  pub total-joined_le : (f : X → ℕ) (m n : NatMap X) → total f (joined m n) ≤ total f m + total f n
  total-joined_le f m n = by_insertions (λ m. total f (joined m n) ≤ total f m + total f n)
      (omega (arith, ap (total f) (empty-joined n)))
      (λ m k v free rest. omega (arith, ap (total f) (joined-insert_first m n k v), total-insert_le f (joined m n) k v, total-insert_new f m k v free, rest)) m
