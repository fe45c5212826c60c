-- The exit status of a check whose results are documents.
use Rattle.std.proofs.Common.{◌≡◌, ℕ, List, inl, inr, subst, sym}
use Rattle.std.proofs.lemmas.Result.{IfOk-weaker}
use Rattle.std.specs.Prelude.{◌⊎◌, is_some, true, IfOk, OnErr, Result, Ok, Err}
use Rattle.list_faults.specs.Places.{fault_of}
use Rattle.list_review.specs.declared.review.Review.{Review}
use Rattle.cli_base.specs.Statuses.{EndsAs}
use Rattle.cli_lists.specs.ListStatus.{EndsOnText, IsReviewOf}

-- a status that is printed, or why it isn't
printed_as : (R : Type 0) (P : ℕ → Type 0) (ended status : ℕ) → EndsAs R P ended → EndsAs ⊥ (λ e. e ≡ ended) status → EndsAs R P status
printed_as R P ended status ends (inl (inl failed)) = inl (inl failed)
printed_as R P ended status ends (inl (inr (two, never))) = absurd never
printed_as R P ended status ends (inr is) = subst (λ s. EndsAs R P s) (sym is) ends

printed_ends : {E : Type 0} (R : Type 0) (P : ℕ → Type 0) (added : Result ℕ E) (status : ℕ) → IfOk added (EndsAs R P)
    → IfOk added (λ ended. EndsAs ⊥ (λ e. e ≡ ended) status) → OnErr added (status ≡ 1) → EndsAs R P status
printed_ends R P (Ok ended) status ends shown none = printed_as R P ended status ends shown
printed_ends R P (Err e) status ends shown is = inl (inl (inl is))

module _ (text : List ℕ) (Refuses : Review → Type 0) (Ends : Review → ℕ → Type 0) where
  -- by the review of a text
  reviewed_as : (review : Review) (status : ℕ) → IsReviewOf text review → EndsAs (Refuses review) (Ends review) status
      → EndsOnText text Refuses Ends status
  reviewed_as review status read (inl (inl failed)) = inl (inl failed)
  reviewed_as review status read (inl (inr (two, refused))) = inl (inr (two, inr (review, read, refused)))
  reviewed_as review status read (inr ends) = inr (review, read, ends)

  pub on_reviewed : {E : Type 0} (review : Review) (added : Result ℕ E) → IsReviewOf text review
      → IfOk added (EndsAs (Refuses review) (Ends review)) → IfOk added (EndsOnText text Refuses Ends)
  on_reviewed review added read =
      IfOk-weaker added (EndsAs (Refuses review) (Ends review)) (EndsOnText text Refuses Ends) (λ status. reviewed_as review status read)

  -- by its fault
  pub on_fault : (status : ℕ) → (status ≡ 1) ⊎ (status ≡ 2) × (is_some (fault_of text) ≡ true) → EndsOnText text Refuses Ends status
  on_fault status (inl one) = inl (inl (inl one))
  on_fault status (inr (two, has_fault)) = inl (inr (two, inl has_fault))

-- a status by a text is printed
pub printed_text : {E : Type 0} (text other : List ℕ) (Refuses : Review → Type 0) (Ends : Review → ℕ → Type 0) (added : Result ℕ E) (status : ℕ)
    → other ≡ text → IfOk added (EndsOnText other Refuses Ends) → IfOk added (λ ended. EndsAs ⊥ (λ e. e ≡ ended) status)
    → OnErr added (status ≡ 1) → EndsOnText text Refuses Ends status
printed_text text other Refuses Ends added status same ends shown none =
    subst (λ (t : List ℕ). EndsOnText t Refuses Ends status) same
    (printed_ends ((is_some (fault_of other) ≡ true) ⊎ ((review : Review) × IsReviewOf other review × Refuses review))
    (λ ended. (review : Review) × IsReviewOf other review × Ends review ended) added status ends shown none)
