-- Sums over two maps: key by key, and by payers of which each pays once.
use Rattle.std.proofs.Common.{◌≡◌, ℕ, zero, suc, ◌+◌, ◌*◌, ◌<◌, ◌≤◌, is_some, Some, unwrap_or, refl, sym, ap, subst, ◌∙◌, arith, add-mul, inl, inr}
use Rattle.std.proofs.lemmas.Bool.{cases_eq}
use Rattle.std.proofs.lemmas.Bool.Decides.{nat_tests}
use Rattle.std.specs.Prelude.{Option, None}
use Rattle.std.specs.Option.{option_map}
use Rattle.std.specs.FinMap.{get, insert, remove, empty}
use Rattle.own_model.specs.NatMap.{NatMap, total, owed}
use Rattle.own_model.proofs.NatMapLemmas.{by_insertions, same, apart_from_free, get-empty, get-insert_same, get-insert_other, get-remove_same, get-remove_other, remove_free}
use Rattle.own_model.proofs.Totals.{total-empty, total-insert_new, total-remove, owed-empty, owed-insert_new, owed_nothing}

-- what a map has under a key, measured; nothing counts for 0
abbrev pub measured : {A : Type 0} → (A → ℕ) → Option A → ℕ
measured g o = unwrap_or (option_map g o) 0

-- what an option has, measured, is the measure of what it has or of what stands for nothing, where that counts for 0
pub measured_or : {A : Type 0} (g : A → ℕ) (o : Option A) (d : A) → g d ≡ 0 → measured g o ≡ g (unwrap_or o d)
measured_or g None d e = sym e
measured_or g (Some a) d e = refl

-- what is taken out at a key takes its own away, if anything is there
taken_by : {A : Type 0} (g : A → ℕ) (m : NatMap A) (k : ℕ) (o : Option A) → get m k ≡ o → total g (remove m k) + measured g o ≡ total g m
taken_by g m k None free = ap (λ n. total g n + 0) (remove_free m k free) ∙ omega arith
taken_by g m k (Some a) there = total-remove g m k a there

pub total-taken : {A : Type 0} (g : A → ℕ) (m : NatMap A) (k : ℕ) → total g (remove m k) + measured g (get m k) ≡ total g m
total-taken g m k = taken_by g m k (get m k) refl

-- the sum of what a map has under the keys below n
abbrev pub sum_below : {A : Type 0} → (A → ℕ) → NatMap A → ℕ → ℕ
sum_below g m zero = 0
sum_below g m (suc n) = sum_below g m n + measured g (get m n)

-- it hangs on these keys alone
sum_below_alike : {A : Type 0} (g : A → ℕ) (m others : NatMap A) (n : ℕ) → ((k : ℕ) → k < n → get m k ≡ get others k) → sum_below g m n ≡ sum_below g others n
sum_below_alike g m others zero alike = refl
sum_below_alike g m others (suc n) alike =
    let before = sum_below_alike g m others n (λ k less. alike k (omega (arith, less))) in
    let here = ap (measured g) (alike n (omega arith)) in
    omega (arith, before, here)

-- a map with no key from n on is summed key by key
pub total_below : {A : Type 0} (g : A → ℕ) (m : NatMap A) (n : ℕ) → ((k : ℕ) → n ≤ k → get m k ≡ None) → total g m ≡ sum_below g m n
total_below g m zero none = ap (total g) (same m empty (λ q. none q (omega arith) ∙ sym (get-empty q))) ∙ total-empty g
total_below g m (suc n) none =
    let rest = total_below g (remove m n) n (λ k more. elim (cases_eq k n) [
      | inl here ↦ get-remove_same m n k here
      | inr apart ↦ get-remove_other m n k apart ∙ none k (grind (arith, nat_tests))
    ]) in
    let alike = sum_below_alike g (remove m n) m n (λ k less. get-remove_other m n k (grind (arith, nat_tests))) in
    let taken = total-taken g m n in
    omega (arith, rest, alike, taken)

-- where each size, so many times, is within what another map has under its key, so are the sums
pub total_keys_le : {X A : Type 0} (f : X → ℕ) (g : A → ℕ) (n : ℕ) (m : NatMap X) (others : NatMap A) → ((k : ℕ) (x : X) → get m k ≡ Some x → f x * n ≤ measured g (get others k)) → total f m * n ≤ total g others
total_keys_le {X} {A} f g n m = by_insertions (λ m. (others : NatMap A) → ((k : ℕ) (x : X) → get m k ≡ Some x → f x * n ≤ measured g (get others k)) → total f m * n ≤ total g others)
    (λ others _. rw (total-empty f) (omega arith))
    (λ m k v free rest others each.
    let before = rest (remove others k) (λ q w there.
    let apart = apart_from_free m k q free (ap is_some there) in
    subst (λ o. f w * n ≤ measured g o) (sym (get-remove_other others k q apart)) (each q w (get-insert_other m k v q apart ∙ there))) in
    let here = each k v (get-insert_same m k v k refl) in
    let taken = total-taken g others k in
    rw (total-insert_new f m k v free, add-mul) (omega arith)) m

-- one payer owes no more than so much, where it pays once at most, and no more than that
pub owed_once : {S : Type 0} (size payer : S → ℕ) (m : NatMap S) (k n : ℕ) → ((d : ℕ) (s : S) → get m d ≡ Some s → payer s ≡ k → size s ≤ n) →
    ((d e : ℕ) (s t : S) → get m d ≡ Some s → get m e ≡ Some t → payer s ≡ k → payer t ≡ k → d ≡ e) → owed size payer m k ≤ n
owed_once {S} size payer m k n = by_insertions (λ m. ((d : ℕ) (s : S) → get m d ≡ Some s → payer s ≡ k → size s ≤ n) →
    ((d e : ℕ) (s t : S) → get m d ≡ Some s → get m e ≡ Some t → payer s ≡ k → payer t ≡ k → d ≡ e) → owed size payer m k ≤ n)
    (λ _ _. rw (owed-empty size payer k) (omega arith))
    (λ m d s free rest within once.
    let after : (q : ℕ) (t : S) → get m q ≡ Some t → get (insert m d s) q ≡ Some t = λ q t there. get-insert_other m d s q (apart_from_free m d q free (ap is_some there)) ∙ there in
    let here = get-insert_same m d s d refl in
    let more = owed-insert_new size payer m d s k free in
    elim (cases_eq (payer s) k) [
      | inl own ↦
          let none = owed_nothing size payer m k (λ q t there same. apart_from_free m d q free (ap is_some there) (once q d t s (after q t there) here same own)) in
          let least = within d s here own in
          grind (arith, nat_tests)
      | inr other ↦
          let before = rest (λ q t there. within q t (after q t there)) (λ q r t u at bt. once q r t u (after q t at) (after r u bt)) in
          grind (arith, nat_tests)
    ]) m
