-- Blanks at the end of a text.
use Rattle.std.proofs.Common.{◌≡◌, ℕ, ◌+◌, ◌-◌, ◌<◌, ◌≤◌, ◌&&◌, Bool, true, false, cond, suc, List, [], ◌∷◌, ◌++◌, length, take, get_or, sym, ap, ◌∙◌, arith, add-one}
use Rattle.std.proofs.Math.Seq.{take-suc}
use Rattle.std.specs.List.{list_all}
use Rattle.std.proofs.Math.Bool.{and-false}
use Rattle.line_friendly.specs.Words.{is_blank}
use Rattle.line_names.specs.Directives.{trimmed}

-- one blank more
all_more : (xs : List ℕ) (b : ℕ) → is_blank b ≡ true → list_all is_blank (xs ++ b ∷ []) ≡ list_all is_blank xs
all_more [] b blank = ap (λ (t : Bool). t && true) blank
all_more (x ∷ xs) b blank = ap (λ (t : Bool). is_blank x && t) (all_more xs b blank)

trimmed_blank : (xs : List ℕ) (b : ℕ) → is_blank b ≡ true → trimmed (xs ++ b ∷ []) ≡ trimmed xs
trimmed_blank [] b blank = ap (λ (t : Bool). cond t [] (b ∷ [])) (all_more [] b blank)
trimmed_blank (x ∷ xs) b blank =
    ap (λ (t : Bool). cond t [] (x ∷ trimmed (xs ++ b ∷ []))) (all_more (x ∷ xs) b blank)
    ∙ ap (λ (l : List ℕ). cond (list_all is_blank (x ∷ xs)) [] (x ∷ l)) (trimmed_blank xs b blank)

not_all : (xs : List ℕ) (b : ℕ) → is_blank b ≡ false → list_all is_blank (xs ++ b ∷ []) ≡ false
not_all [] b sign = ap (λ (t : Bool). t && true) sign
not_all (x ∷ xs) b sign = ap (λ (t : Bool). is_blank x && t) (not_all xs b sign) ∙ and-false (is_blank x)

trimmed_sign : (xs : List ℕ) (b : ℕ) → is_blank b ≡ false → trimmed (xs ++ b ∷ []) ≡ xs ++ b ∷ []
trimmed_sign [] b sign = ap (λ (t : Bool). cond t [] (b ∷ [])) (not_all [] b sign)
trimmed_sign (x ∷ xs) b sign =
    ap (λ (t : Bool). cond t [] (x ∷ trimmed (xs ++ b ∷ []))) (not_all (x ∷ xs) b sign)
    ∙ ap (λ (l : List ℕ). x ∷ l) (trimmed_sign xs b sign)

one_more : (text : List ℕ) (end at : ℕ) → end ≡ at + 1 → end ≤ length text → take end text ≡ take at text ++ get_or text at 0 ∷ []
one_more text end at one within = ap (λ n. take n text) one ∙ rw add-one (take-suc text at 0 (omega (arith, one, within)))

pub trimmed_step : (text : List ℕ) (end at : ℕ) → end ≡ at + 1 → end ≤ length text → is_blank (get_or text at 0) ≡ true →
    trimmed (take end text) ≡ trimmed (take at text)
trimmed_step text end at one within blank =
    ap trimmed (one_more text end at one within) ∙ trimmed_blank (take at text) (get_or text at 0) blank

pub trimmed_stop : (text : List ℕ) (end at : ℕ) → end ≡ at + 1 → end ≤ length text → is_blank (get_or text at 0) ≡ false →
    trimmed (take end text) ≡ take end text
trimmed_stop text end at one within sign =
    ap trimmed (one_more text end at one within) ∙ trimmed_sign (take at text) (get_or text at 0) sign
    ∙ sym (one_more text end at one within)

pub ruleset trims = (trimmed_step, trimmed_stop)
