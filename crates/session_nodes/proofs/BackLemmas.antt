-- Links back: each block's to the one before it.
use Rattle.std.proofs.Common.{◌≡◌, ◌≢◌, ℕ, true, false, List, [], ◌∷◌, ◌++◌, sym, ap, ◌∙◌, arith}
use Rattle.std.proofs.lemmas.Bool.Decides.{nat_tests}
use Rattle.sliced_heap.specs.Chain.{is_listed, has_no_repeat}
use Rattle.session_nodes.specs.Index.{LeadsBack}
use Rattle.session_nodes.specs.Links.{Leads, last_of}
use Rattle.session_nodes.proofs.LinkLemmas.{listed_first, listed_later, listed_append, once_first, once_later, unlisted}

-- the link of a block leads to the one before it
pub back_at : (previous : ℕ → ℕ) (holder : ℕ) (before behind : List ℕ) (a : ℕ) → LeadsBack previous holder (before ++ a ∷ behind) → previous a ≡ last_of holder before
back_at previous holder [] behind a back = back.0
back_at previous holder (b ∷ before) behind a back = back_at previous b before behind a back.1

module _ (previous later : ℕ → ℕ) where
  -- they stay while those of the blocks stay
  pub back_kept : (holder : ℕ) (xs : List ℕ) → ((b : ℕ) → is_listed xs b ≡ true → later b ≡ previous b) → LeadsBack previous holder xs → LeadsBack later holder xs
  back_kept holder [] kept back = tt
  back_kept holder (x ∷ xs) kept back = (kept x (listed_first x xs) ∙ back.0, back_kept x xs (λ b t. kept b (listed_later x b xs t)) back.1)

  -- one more, behind the last
  pub back_appended : (holder a : ℕ) (xs : List ℕ) → ((b : ℕ) → is_listed xs b ≡ true → later b ≡ previous b) → later a ≡ last_of holder xs → LeadsBack previous holder xs → LeadsBack later holder (xs ++ a ∷ [])
  back_appended holder a [] kept last back = (last, tt)
  back_appended holder a (x ∷ xs) kept last back = (kept x (listed_first x xs) ∙ back.0, back_appended x a xs (λ b t. kept b (listed_later x b xs t)) last back.1)

  -- one less: the one behind it is linked back to the one before it
  pub back_without : (link : ℕ → ℕ) (holder a n : ℕ) (before behind : List ℕ) → has_no_repeat (before ++ a ∷ behind) ≡ true → is_listed (before ++ a ∷ behind) 0 ≡ false → Leads link a behind → n ≡ link a →
      ((b : ℕ) → is_listed (before ++ a ∷ behind) b ≡ true → b ≢ n → later b ≡ previous b) → (n ≢ 0 → later n ≡ last_of holder before) → LeadsBack previous holder (before ++ a ∷ behind) →
      LeadsBack later holder (before ++ behind)
  back_without link holder a n [] [] once some leads next kept linked back = tt
  back_without link holder a n [] (y ∷ ys) once some leads next kept linked back =
      let at : n ≡ y = next ∙ leads.0 in
      let nonzero : y ≢ 0 = unlisted (a ∷ y ∷ ys) 0 y some (listed_later a y (y ∷ ys) (listed_first y ys)) in
      let fresh = once_first y ys (once_later a (y ∷ ys) once) in (
        ap later (sym at) ∙ linked (λ e. nonzero (sym at ∙ e)),
        back_kept y ys (λ b t. kept b (listed_later a b (y ∷ ys) (listed_later y b ys t)) (λ e. unlisted ys y b fresh t (e ∙ at))) back.1.1,
      )
  back_without link holder a n (b ∷ before) behind once some leads next kept linked back =
      let rest : has_no_repeat (before ++ a ∷ behind) ≡ true = once_later b (before ++ a ∷ behind) once in
      let fresh = once_first b (before ++ a ∷ behind) once in
      let none : is_listed (before ++ a ∷ behind) 0 ≡ false = grind (arith, nat_tests) in
      let nonzero : b ≢ 0 = unlisted (b ∷ (before ++ a ∷ behind)) 0 b some (listed_first b (before ++ a ∷ behind)) in
      let other : b ≢ n = not_next link a n b before behind fresh nonzero leads next in (
        kept b (listed_first b (before ++ a ∷ behind)) other ∙ back.0,
        back_without link b a n before behind rest none leads next (λ c t. kept c (listed_later b c (before ++ a ∷ behind) t)) linked back.1,
      )
    where
      not_next : (link : ℕ → ℕ) (a n b : ℕ) (before behind : List ℕ) → is_listed (before ++ a ∷ behind) b ≡ false → b ≢ 0 → Leads link a behind → n ≡ link a → b ≢ n
      not_next link a n b before [] fresh nonzero leads next e = nonzero (e ∙ next ∙ leads)
      not_next link a n b before (y ∷ ys) fresh nonzero leads next e =
          let at : b ≡ y = e ∙ next ∙ leads.0 in
          let l = listed_append before (a ∷ y ∷ ys) y in
          unlisted (before ++ a ∷ y ∷ ys) b y fresh (grind (arith, nat_tests)) (sym at)
