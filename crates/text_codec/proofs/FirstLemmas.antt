-- A word is found among those that begin as it does.
use native.Mathlib.Omega.{arith}
use Rattle.std.proofs.Common.{rules, ◌≡◌, ℕ, false, List, [], ◌∷◌, Some, refl, ap, ◌∙◌}
use Rattle.std.specs.Prelude.{find, slice_get}
use Rattle.std.specs.Str.{bytes_eq}
use Rattle.std.proofs.lemmas.Bool.Decides.{nat_tests}
use Rattle.text_codec.specs.Firsts.{begins_with, with_first}

-- a word that begins otherwise is another one
differs : (first : ℕ) (rest word : List ℕ) → begins_with first word ≡ false → bytes_eq (first ∷ rest) word ≡ false
differs first rest [] _ = refl
differs first rest (byte ∷ bytes) other = grind (arith, nat_tests)

found_behind : {X : Type 0} (word_of : X → List ℕ) (first : ℕ) (rest : List ℕ) (among : List X) →
    find (λ x. bytes_eq (first ∷ rest) (word_of x)) (with_first word_of first among) ≡ find (λ x. bytes_eq (first ∷ rest) (word_of x)) among
found_behind word_of first rest [] = refl
found_behind word_of first rest (x ∷ among) = grind (arith, differs first rest (word_of x), found_behind word_of first rest among)

pub found_with_first : {X : Type 0} (word_of : X → List ℕ) (word : List ℕ) (first : ℕ) → Some first ≡ slice_get word 0 → (among : List X) →
    find (λ x. bytes_eq word (word_of x)) (with_first word_of first among) ≡ find (λ x. bytes_eq word (word_of x)) among
found_with_first word_of [] first begins among = search rules
found_with_first word_of (byte ∷ bytes) first begins among =
    let is_first : first ≡ byte = search rules in
    ap (λ b. find (λ x. bytes_eq (byte ∷ bytes) (word_of x)) (with_first word_of b among)) is_first ∙ found_behind word_of byte bytes among
