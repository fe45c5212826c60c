-- What an exit status states.
use Rattle.std.proofs.Common.{◌≡◌, ◌≢◌, ℕ, Result, Ok, Err, OnOk, refl, sym, subst, ap, ◌∙◌, arith, inl, inr}
use Rattle.std.specs.Prelude.{◌==◌, if◌then◌else◌}
use Rattle.std.specs.IoError.{error_kind}
use Rattle.std.specs.declared.io.Error.{Error}
use Rattle.std.specs.declared.io.ErrorKind.TheVariants.{BrokenPipe}
use Rattle.cli_base.specs.Statuses.{EndsAs, HasNoResult, HasWritten, IsZero}

-- the write didn't fail
pub written_whole : {T : Type 0} (written : Result T Error) (status : ℕ) (P : Type 0) → HasWritten written status → OnOk written P → status ≡ 0 → P
written_whole (Ok done) status P has holds zero = holds
written_whole (Err error) status P has holds zero =
    let open_pipe : error_kind error ≢ BrokenPipe = λ closed. omega (arith, zero, has.0 closed) in
    absurd (omega (arith, zero, has.1 open_pipe))

-- each reason of a refusal is one of others
refused_by : (R S : Type 0) (Q : ℕ → Type 0) → (R → S) → (status : ℕ) → HasNoResult R status → EndsAs S Q status
refused_by R S Q why status (inl failed) = inl (inl failed)
refused_by R S Q why status (inr (two, refused)) = inl (inr (two, why refused))

-- what holds of each status of a result, and of each reason of a refusal
pub ends_by : (R S : Type 0) (P Q : ℕ → Type 0) → (R → S) → ((ended : ℕ) → P ended → Q ended) → (status : ℕ) → EndsAs R P status
    → EndsAs S Q status
ends_by R S P Q why more status (inl ended) = refused_by R S Q why status ended
ends_by R S P Q why more status (inr is) = inr (more status is)

-- a status without a result stays, where a function keeps each
pub failed_by : (R : Type 0) (f : ℕ → ℕ) (ran status : ℕ) → f 1 ≡ 1 → f 2 ≡ 2 → f 141 ≡ 141 → status ≡ f ran → HasNoResult R ran
    → HasNoResult R status
failed_by R f ran status one two closed is (inl (inl ran_is)) = inl (inl (is ∙ ap f ran_is ∙ one))
failed_by R f ran status one two closed is (inl (inr ran_is)) = inl (inr (is ∙ ap f ran_is ∙ closed))
failed_by R f ran status one two closed is (inr (ran_is, refused)) = inr (is ∙ ap f ran_is ∙ two, refused)

-- a status without a result, where nothing is refused
unrefused : (R : Type 0) (status : ℕ) → HasNoResult ⊥ status → HasNoResult R status
unrefused R status (inl failed) = inl failed
unrefused R status (inr (two, refused)) = absurd refused

-- a result that was printed, or the write that failed
pub ends_printed : (R : Type 0) (P : ℕ → Type 0) (printed status ended : ℕ) → EndsAs ⊥ IsZero printed → EndsAs R P status
    → ended ≡ (if printed == 0 then status else printed) → EndsAs R P ended
ends_printed R P printed status ended (inl failed) ends is =
    inl (unrefused R ended (failed_by ⊥ (λ p. if p == 0 then status else p) printed ended refl refl refl is failed))
ends_printed R P printed status ended (inr zero) ends is =
    subst (λ s. EndsAs R P s) (sym (is ∙ ap (λ p. if p == 0 then status else p) zero)) ends
