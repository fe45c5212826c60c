-- One diagnostic after another.
use Rattle.std.proofs.Common.{◌≡◌, ℕ, ◌<◌, ◌≤◌, ◌+◌, List, [], ◌∷◌, ◌++◌, length, map, drop, get_or, refl, sym, subst, ap, ◌∙◌, inl, inr}
use Rattle.std.specs.Prelude.{IfOk, OnOk, MatchOption, Option, Some, None, Result, Ok, Err}
use Rattle.std.specs.Str.{IsUtf8}
use Rattle.std.proofs.lemmas.List.{append_assoc, append-nil, drop_all, drop_more, map-append}
use Rattle.list_policy.specs.Verdict.{PlaceAt}
use Rattle.cli_base.specs.PolicyVerdict.{IsNoPolicy, note_place}
use Rattle.cli_base.specs.declared.policy_verdict.PolicyDiagnostic.{PolicyDiagnostic}

module _ {X : Type 0} (noted_as : X → PlaceAt) where
  -- what is noted and what is left to be noted are all
  abbrev pub NotedTo : List X → List PlaceAt → ℕ → List PolicyDiagnostic → Type 0
  NotedTo all before place notes = map note_place notes ++ map noted_as (drop place all) ≡ before ++ map noted_as all

  pub noted_more : (all : List X) (before : List PlaceAt) (place next : ℕ) (one : X) (note : PolicyDiagnostic) (old new : List PolicyDiagnostic)
      → next ≡ place + 1 → place < length all → one ≡ get_or all place one → note_place note ≡ noted_as one → new ≡ old ++ note ∷ []
      → NotedTo all before place old → NotedTo all before next new
  noted_more all before place next one note old new after within is same more noted =
      ap (λ n. map note_place new ++ map noted_as (drop n all)) after
      ∙ (ap (λ ns. map note_place ns ++ map noted_as (drop (place + 1) all)) more
      ∙ (ap (λ ps. ps ++ map noted_as (drop (place + 1) all)) (map-append note_place old (note ∷ []))
      ∙ (append_assoc (map note_place old) (note_place note ∷ []) (map noted_as (drop (place + 1) all))
      ∙ (ap (λ p. map note_place old ++ p ∷ map noted_as (drop (place + 1) all)) (same ∙ ap noted_as is)
      ∙ (ap (λ (xs : List X). map note_place old ++ map noted_as xs) (sym (drop_more all place one within)) ∙ noted)))))

  pub noted_all : (all : List X) (before : List PlaceAt) (place : ℕ) (notes : List PolicyDiagnostic) → length all ≤ place
      → NotedTo all before place notes → map note_place notes ≡ before ++ map noted_as all
  noted_all all before place notes end noted =
      sym (append-nil (map note_place notes))
      ∙ (ap (λ (xs : List X). map note_place notes ++ map noted_as xs) (sym (drop_all place all end)) ∙ noted)

-- ---- bytes that are no policy, and bytes that are one

pub too_long : (bytes : List ℕ) → 65536 < length bytes → IsNoPolicy bytes
too_long bytes long = inl long

pub not_text : (bytes : List ℕ) → (¬ (IsUtf8 bytes)) → IsNoPolicy bytes
not_text bytes broken = inr broken

-- a result is that of the text at a path
at_text_some : {X : Type 0} (o : Option X) (No : Type 0) (At : List ℕ → Type 0) (is : List ℕ → X → Type 0) (text : List ℕ) → At text
    → MatchOption o ⊥ (is text) → MatchOption o No (λ x. (t : List ℕ) × At t × is t x)
at_text_some None No At is text at found = absurd found
at_text_some (Some x) No At is text at found = (text, at, found)

pub at_text : {V E X : Type 0} (notes : V → Option X) (No : Type 0) (At : List ℕ → Type 0) (is : List ℕ → X → Type 0) (text : List ℕ)
    (r : Result V E) → At text → IfOk r (λ v. MatchOption (notes v) ⊥ (is text))
    → IfOk r (λ v. MatchOption (notes v) No (λ x. (t : List ℕ) × At t × is t x))
at_text notes No At is text (Ok v) at found = at_text_some (notes v) No At is text at found
at_text notes No At is text (Err fault) at found = found

-- what is shown was found
pub with_found : {V E X : Type 0} (is : List X → Type 0) (shows : List X → Type 0) (found shown : List X) (r : Result V E) → shown ≡ found
    → is found → OnOk r (shows shown) → OnOk r ((xs : List X) × is xs × shows xs)
with_found is shows found shown (Ok v) same holds told = (found, holds, subst shows same told)
with_found is shows found shown (Err fault) same holds told = told
