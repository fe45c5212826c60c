-- Links after a block is put behind the last one, and after one is taken out.
use Rattle.std.proofs.Common.{◌≡◌, ◌≢◌, ℕ, zero, suc, ◌≤◌, true, false, List, [], ◌∷◌, ◌++◌, length, map, ◌||◌, refl, sym, ap, ◌∙◌, true≢false, arith}
use Rattle.std.proofs.lemmas.Bool.Decides.{nat_tests}
use Rattle.sliced_heap.specs.Chain.{is_listed, has_no_repeat}
pub use Rattle.sliced_heap.proofs.ChainLemmas.{unlisted, listed_first, listed_later, once_first, once_later}
use Rattle.session_nodes.specs.Links.{Leads, last_of, along}

-- ---- what is listed, and nothing twice

-- what two lists have is what either has
pub listed_append : (xs ys : List ℕ) (b : ℕ) → is_listed (xs ++ ys) b ≡ (is_listed xs b || is_listed ys b)
listed_append [] ys b = refl
listed_append (x ∷ xs) ys b = let rest = listed_append xs ys b in grind (arith, nat_tests)

-- a block that is appended is listed, and so are those before it
pub listed_last : (xs : List ℕ) (a : ℕ) → is_listed (xs ++ a ∷ []) a ≡ true
listed_last xs a = let l = listed_append xs (a ∷ []) a in grind (arith, nat_tests)

pub listed_front : (xs : List ℕ) (a b : ℕ) → is_listed xs b ≡ true → is_listed (xs ++ a ∷ []) b ≡ true
listed_front xs a b t = let l = listed_append xs (a ∷ []) b in grind (arith, nat_tests)

-- the last one is listed, the holder among them
pub last_listed : (h : ℕ) (xs : List ℕ) → is_listed (h ∷ xs) (last_of h xs) ≡ true
last_listed h [] = listed_first h []
last_listed h (x ∷ xs) = listed_later h (last_of x xs) (x ∷ xs) (last_listed x xs)

-- nothing comes twice after a fresh one is put last
pub once_appended : (xs : List ℕ) (a : ℕ) → has_no_repeat xs ≡ true → is_listed xs a ≡ false → has_no_repeat (xs ++ a ∷ []) ≡ true
once_appended [] a once fresh = refl
once_appended (x ∷ xs) a once fresh = grind (arith, nat_tests, once_later, listed_append, once_appended xs a (once_later x xs once) (grind (arith, nat_tests)))

-- nor where one is left out
pub once_without : (before after : List ℕ) (x : ℕ) → has_no_repeat (before ++ x ∷ after) ≡ true → has_no_repeat (before ++ after) ≡ true
once_without [] after x once = once_later x after once
once_without (b ∷ before) after x once = grind (arith, nat_tests, once_later, listed_append, once_without before after x (once_later b (before ++ x ∷ after) once))

-- what comes once isn't before itself
pub once_apart : (before after : List ℕ) (x : ℕ) → has_no_repeat (before ++ x ∷ after) ≡ true → is_listed (before ++ after) x ≡ false
once_apart [] after x once = once_first x after once
once_apart (b ∷ before) after x once = grind (arith, nat_tests, once_later, listed_append, once_apart before after x (once_later b (before ++ x ∷ after) once))

-- ---- links

module _ (link after_link : ℕ → ℕ) where
  -- links lead where they led while those of the blocks stay
  pub leads_kept : (holder : ℕ) (xs : List ℕ) → ((b : ℕ) → is_listed (holder ∷ xs) b ≡ true → after_link b ≡ link b) → Leads link holder xs → Leads after_link holder xs
  leads_kept holder [] kept leads = kept holder (listed_first holder []) ∙ leads
  leads_kept holder (x ∷ xs) kept leads = grind (arith, nat_tests, listed_first, listed_later, leads_kept x xs (λ b t. kept b (listed_later holder b (x ∷ xs) t)) leads.1)

  -- a block more, to which the last one is linked
  pub leads_appended : (holder a : ℕ) (xs : List ℕ) → has_no_repeat (holder ∷ xs) ≡ true →
      ((b : ℕ) → is_listed (holder ∷ xs) b ≡ true → b ≢ last_of holder xs → after_link b ≡ link b) →
      after_link (last_of holder xs) ≡ a → after_link a ≡ 0 → Leads link holder xs → Leads after_link holder (xs ++ a ∷ [])
  leads_appended holder a [] once kept last end leads = (last, end)
  leads_appended holder a (x ∷ xs) once kept last end leads =
      let apart : holder ≢ last_of x xs = λ e. true≢false (sym (last_listed x xs) ∙ ap (is_listed (x ∷ xs)) (sym e) ∙ once_first holder (x ∷ xs) once) in (
        kept holder (listed_first holder (x ∷ xs)) apart ∙ leads.0,
        leads_appended x a xs (once_later holder (x ∷ xs) once) (λ b t. kept b (listed_later holder b (x ∷ xs) t)) last end leads.1,
      )

  -- a block less: the one before it is linked to the one behind it
  pub leads_without : (holder x : ℕ) (before after : List ℕ) → has_no_repeat (holder ∷ (before ++ x ∷ after)) ≡ true →
      ((b : ℕ) → is_listed (holder ∷ (before ++ after)) b ≡ true → b ≢ last_of holder before → after_link b ≡ link b) →
      after_link (last_of holder before) ≡ link x → Leads link holder (before ++ x ∷ after) → Leads after_link holder (before ++ after)
  leads_without holder x [] [] once kept over leads = over ∙ leads.1
  leads_without holder x [] (y ∷ ys) once kept over leads = grind (arith, nat_tests, once_later, once_first, leads_kept, listed_later, unlisted)
  leads_without holder x (p ∷ before) after once kept over leads =
      let listed = last_listed p before in
      let all = once_first holder (p ∷ (before ++ x ∷ after)) once in
      let with_it = listed_append before (x ∷ after) (last_of p before) in
      let apart : holder ≢ last_of p before = λ e. true≢false (sym (grind (arith, nat_tests)) ∙ ap (is_listed (p ∷ (before ++ x ∷ after))) (sym e) ∙ all) in (
        kept holder (listed_first holder (p ∷ (before ++ after))) apart ∙ leads.0,
        leads_without p x before after (once_later holder (p ∷ (before ++ x ∷ after)) once) (λ b t. kept b (listed_later holder b (p ∷ (before ++ after)) t)) over leads.1,
      )

-- the blocks are those that are found along the links
pub along_line : (link : ℕ → ℕ) (n holder : ℕ) (xs : List ℕ) → is_listed xs 0 ≡ false → length xs ≤ n → Leads link holder xs → along link n holder ≡ xs
along_line link zero holder [] no_zero few leads = refl
along_line link zero holder (x ∷ xs) no_zero few leads = absurd (omega (arith, few))
along_line link (suc n) holder [] no_zero few leads = rw leads refl
along_line link (suc n) holder (x ∷ xs) no_zero few leads = grind (arith, nat_tests, along_line link n x xs (grind (arith, nat_tests)) (omega (arith, few)) leads.1)

-- ---- what is read of each block

module _ {X : Type 0} (f g : ℕ → X) where
  -- it stays while it stays of each
  pub map_kept : (xs : List ℕ) → ((b : ℕ) → is_listed xs b ≡ true → g b ≡ f b) → map g xs ≡ map f xs
  map_kept [] kept = refl
  map_kept (x ∷ xs) kept = grind (arith, nat_tests, listed_first, listed_later, map_kept xs (λ b t. kept b (listed_later x b xs t)))
