-- There are no more large blocks than a machine has room for.
use Rattle.std.proofs.Common.{◌≡◌, ◌≢◌, ℕ, ◌*◌, ◌≤◌, List, length, Some, refl, sym, ap, ◌∙◌, ⊎_elim, arith}
use Rattle.std.proofs.lemmas.Bool.{cases_eq}
use Rattle.std.proofs.lemmas.Option.{none-some}
use Rattle.std.specs.Prelude.{Option, None}
use Rattle.std.specs.Option.{option_map, option_and_then}
use Rattle.std.specs.FinMap.{get, insert, remove, empty, len}
use Rattle.own_model.specs.HeapWindow.{pages_of_all}
use Rattle.own_model.specs.NatMap.{NatMap, total}
use Rattle.own_model.specs.Region.{Region}
use Rattle.own_model.proofs.NatMapLemmas.{by_insertions, picked_same, get-insert_same, get-insert_other, get-remove_other}
use Rattle.own_model.proofs.Totals.{total-empty, total-insert_new, total-remove, total_times_le, len-total, total-picked}

-- a map that another one has all of is no more in sum
pub record IsPartOf {X : Type 0} (m n : NatMap X) : Type 0 where
  pub there : (q : ℕ) (x : X) → get m q ≡ Some x → get n q ≡ Some x

module _ {X : Type 0} (f : X → ℕ) where
  abbrev NoMore : NatMap X → Type 0
  NoMore m = (n : NatMap X) → IsPartOf m n → total f m ≤ total f n

  none : NoMore empty
  none n part = let e = total-empty f in omega (arith, e)

  more : (m : NatMap X) (k : ℕ) (v : X) → get m k ≡ None → NoMore m → NoMore (insert m k v)
  more m k v free less n part =
      let at = part.there k v (get-insert_same m k v k refl) in
      let rest = less (remove n k) (record {
        there = λ q x h. ⊎_elim
            (λ (here : q ≡ k). absurd (none-some x (sym (ap (get m) here ∙ free) ∙ h)))
            (λ (other : q ≢ k). get-remove_other n k q other ∙ part.there q x (get-insert_other m k v q other ∙ h))
            (cases_eq q k);
      }) in
      let one = total-insert_new f m k v free in
      let all = total-remove f n k v at in
      omega (arith, rest, one, all)

  pub total_part_le : (m : NatMap X) → NoMore m
  total_part_le m = by_insertions NoMore none more m

-- regions of at least 16 pages each
pub few_large : (large heap : NatMap Region) → IsPartOf large heap → ((s : ℕ) (r : Region) → get large s ≡ Some r → 16 ≤ r.pages) → len large * 16 ≤ pages_of_all heap
few_large large heap part least =
    let count = total_times_le (λ (r : Region). 1) (λ r. r.pages) 16 large (λ s r h. let l = least s r h in omega (arith, l)) in
    let all = total_part_le (λ (r : Region). r.pages) large heap part in
    let as_len = len-total large in
    omega (arith, count, all, as_len)

-- what has a length is picked by it
picked_length : (o : Option (List ℕ)) → option_and_then (λ (bytes : List ℕ). Some (length bytes)) o ≡ option_map length o
picked_length None = refl
picked_length (Some bytes) = refl

-- maps of bytes of the same lengths are as many
pub len_alike : (m n : NatMap (List ℕ)) → ((k : ℕ) → option_map length (get m k) ≡ option_map length (get n k)) → len m ≡ len n
len_alike m n alike =
    let lengths = λ (bytes : List ℕ). Some (length bytes) in
    len-total m ∙ sym (total-picked (λ (l : ℕ). 1) lengths m)
    ∙ ap (total (λ (l : ℕ). 1)) (picked_same lengths lengths m n (λ q. picked_length (get m q) ∙ alike q ∙ sym (picked_length (get n q))))
    ∙ total-picked (λ (l : ℕ). 1) lengths n ∙ sym (len-total n)
