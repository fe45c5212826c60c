-- Where so many links lead: along blocks in order, or back along them.
use Rattle.std.proofs.Common.{◌≡◌, ◌≢◌, ℕ, zero, suc, ◌+◌, ◌<◌, true, false, eqb, List, [], ◌∷◌, length, get_or, refl, sym, ap, subst, ◌∙◌, arith, inl, inr}
use Rattle.std.proofs.lemmas.Bool.{cases_eq}
use Rattle.std.proofs.lemmas.Bool.Decides.{nat_tests}
use Rattle.sliced_heap.specs.Chain.{is_listed}
use Rattle.session_nodes.specs.Index.{LeadsBack}
use Rattle.session_nodes.specs.Links.{Leads, led_to, followed}
use Rattle.session_nodes.proofs.LinkLemmas.{listed_first, listed_later, unlisted}

-- ---- steps

pub led_some : (link : ℕ → ℕ) (block : ℕ) → block ≢ 0 → led_to link block ≡ link block
led_some link block some = let e : eqb block 0 ≡ false = grind (arith, nat_tests) in rw e refl

-- one link more leads on
pub followed_then : (link : ℕ → ℕ) (m n block : ℕ) → followed link n (followed link m block) ≡ followed link (n + m) block
followed_then link m zero block = let same : m ≡ 0 + m = omega arith in ap (λ k. followed link k block) same
followed_then link m (suc n) block =
    let same : suc (n + m) ≡ suc n + m = omega arith in
    ap (led_to link) (followed_then link m n block) ∙ ap (λ k. followed link k block) same

-- nothing leads on from the end
pub followed_end : (link : ℕ → ℕ) (n : ℕ) → followed link n 0 ≡ 0
followed_end link zero = refl
followed_end link (suc n) = ap (led_to link) (followed_end link n)

-- links that agree on blocks lead to the same
pub followed_same : (f g : ℕ → ℕ) → ((b : ℕ) → b ≢ 0 → f b ≡ g b) → (n block : ℕ) → followed f n block ≡ followed g n block
followed_same f g same zero block = refl
followed_same f g same (suc n) block = led_same (followed f n block) ∙ ap (led_to g) (followed_same f g same n block) where
  led_same : (b : ℕ) → led_to f b ≡ led_to g b
  led_same b = elim (cases_eq b 0) [
    | inl here ↦ subst (λ c. led_to f c ≡ led_to g c) (sym here) refl
    | inr other ↦ led_some f b other ∙ same b other ∙ sym (led_some g b other)
  ]

-- ---- blocks in order

-- what is at a place is one of them, unless it is past the end
pub listed_at : (xs : List ℕ) (k : ℕ) → get_or xs k 0 ≢ 0 → is_listed xs (get_or xs k 0) ≡ true
listed_at [] k some = absurd (some refl)
listed_at (x ∷ xs) zero some = listed_first x xs
listed_at (x ∷ xs) (suc k) some = listed_later x (get_or xs k 0) xs (listed_at xs k some)

listed_in : (xs : List ℕ) (k : ℕ) → k < length xs → is_listed xs (get_or xs k 0) ≡ true
listed_in [] k there = absurd (omega (arith, there))
listed_in (x ∷ xs) zero there = listed_first x xs
listed_in (x ∷ xs) (suc k) there = listed_later x (get_or xs k 0) xs (listed_in xs k (omega (arith, there)))

-- each is there: none of them is 0
pub nonzero_at : (xs : List ℕ) (k : ℕ) → is_listed xs 0 ≡ false → k < length xs → get_or xs k 0 ≢ 0
nonzero_at xs k none there = unlisted xs 0 (get_or xs k 0) none (listed_in xs k there)

module _ (link : ℕ → ℕ) where
  -- the holder's link leads to the first one
  pub first_at : (holder : ℕ) (xs : List ℕ) → Leads link holder xs → link holder ≡ get_or xs 0 0
  first_at holder [] leads = leads
  first_at holder (x ∷ xs) leads = leads.0

  -- each leads to the one after it
  step_at : (holder : ℕ) (xs : List ℕ) → is_listed xs 0 ≡ false → Leads link holder xs → (k : ℕ) → led_to link (get_or xs k 0) ≡ get_or xs (suc k) 0
  step_at holder [] none leads k = refl
  step_at holder (x ∷ xs) none leads zero = led_some link x (nonzero_at (x ∷ xs) 0 none (omega arith)) ∙ first_at x xs leads.1
  step_at holder (x ∷ xs) none leads (suc k) = step_at x xs (grind (arith, nat_tests)) leads.1 k

  pub followed_at : (holder : ℕ) (xs : List ℕ) → is_listed xs 0 ≡ false → Leads link holder xs → (n k : ℕ) → followed link n (get_or xs k 0) ≡ get_or xs (n + k) 0
  followed_at holder xs none leads zero k = let same : k ≡ 0 + k = omega arith in ap (λ m. get_or xs m 0) same
  followed_at holder xs none leads (suc n) k =
      let same : suc (n + k) ≡ suc n + k = omega arith in
      ap (led_to link) (followed_at holder xs none leads n k) ∙ step_at holder xs none leads (n + k) ∙ ap (λ m. get_or xs m 0) same

module _ (previous : ℕ → ℕ) where
  -- each leads back to the one before it
  back_step : (holder : ℕ) (xs : List ℕ) → is_listed xs 0 ≡ false → LeadsBack previous holder xs → (k : ℕ) → suc k < length xs → led_to previous (get_or xs (suc k) 0) ≡ get_or xs k 0
  back_step holder [] none back k there = absurd (omega (arith, there))
  back_step holder (x ∷ []) none back zero there = absurd (omega (arith, there))
  back_step holder (x ∷ y ∷ xs) none back zero there = led_some previous y (nonzero_at (x ∷ y ∷ xs) 1 none (omega arith)) ∙ back.1.0
  back_step holder (x ∷ xs) none back (suc k) there = back_step x xs (grind (arith, nat_tests)) back.1 k (omega (arith, there))

  pub followed_back : (holder : ℕ) (xs : List ℕ) → is_listed xs 0 ≡ false → LeadsBack previous holder xs → (n k : ℕ) → n + k < length xs → followed previous n (get_or xs (n + k) 0) ≡ get_or xs k 0
  followed_back holder xs none back zero k there = let same : 0 + k ≡ k = omega arith in ap (λ m. get_or xs m 0) same
  followed_back holder xs none back (suc n) k there =
      let same : suc n + k ≡ n + suc k = omega arith in
      let less : n + suc k < length xs = omega (arith, there) in
      let one : suc k < length xs = omega (arith, there) in
      ap (λ m. led_to previous (followed previous n (get_or xs m 0))) same
      ∙ ap (led_to previous) (followed_back holder xs none back n (suc k) less)
      ∙ back_step holder xs none back k one
