-- The selector is the one that the reply tells.
use Rattle.std.proofs.Common.{◌≡◌, ◌<◌, ◌≤◌, ◌^◌, ◌++◌, ◌∙◌, ℕ, true, cond, codes, decimal, inl, inr, is_some, true≢false, subst, sym, ap, arith}
use Rattle.std.proofs.lemmas.Bool.{cases_lt}
use Rattle.std.proofs.lemmas.Bool.Decides.{nat_tests}
use Rattle.std.proofs.lemmas.Fmt.{decimal_injective}
use Rattle.std.proofs.lemmas.List.{append_cancel_left}
use Rattle.std.specs.Prelude.{None, Some, nat_le}
use Rattle.own_model.specs.OwnState.{session_named}
use Rattle.core_calls.specs.Outcome.{IsText}
use Rattle.view_accounts.proofs.session_outcome.SessionOutcome.of.Goals as goal

-- the selector is the one that is told, where that is none too great
same_selector : (told selector last : ℕ) → told < 2 ^ 64 → codes "cap " ++ decimal selector ≡ codes "cap " ++ decimal told → selector ≤ last → last ≤ 4096 →
    cond (nat_le told last) (Some told) None ≡ Some selector
same_selector told selector last small is within most =
    let same : selector ≡ told = decimal_injective selector told (omega arith) (omega arith) (append_cancel_left (codes "cap ") (decimal selector) (decimal told) is) in
    let low : nat_le told last ≡ true = grind (arith, nat_tests) in
    ap (λ b. cond b (Some told) None) low ∙ ap Some (sym same)

pub returns-in-Selected-clause-opened : goal.returns-in-Selected-clause-opened
returns-in-Selected-clause-opened g c = λ selector is there. elim (cases_lt c.last_selector-last.result selector) [
  | inl past ↦ absurd (true≢false (sym there ∙ ap (λ o. is_some (session_named o)) (c.last_selector-last.ensures.none selector past)))
  | inr within ↦
      c.up_to.ensures.value
      ∙ same_selector c.from.result selector c.last_selector-last.result c.up_to.ensures.fits
      (subst (λ o. IsText o (codes "cap " ++ decimal selector)) c.in-Selected.is is ∙ ap (λ k. codes "cap " ++ decimal k) (sym c.from.ensures))
      within c.last_selector-last.ensures.most
]
