-- Texts, one piece after another.
use Rattle.std.proofs.Common.{◌≡◌, ◌∙◌, ◌+◌, ◌<◌, ℕ, Bool, List, [], ◌∷◌, ◌++◌, codes, length, drop, get_or, append_assoc, append-nil, refl, sym, ap}
use Rattle.std.proofs.lemmas.List.{drop_more, nil_from_length}
use Rattle.std.proofs.lemmas.Str.{chars-nil, chars_past_char}
use Rattle.std.specs.Char.{encode_utf8}
use Rattle.std.specs.Str.{IsUtf8}
use Rattle.list_parts.specs.PartTexts.{step_text, steps_after}
use Rattle.list_parts.specs.QuotedTexts.{escaped_text, sign_text}
use Rattle.list_parts.specs.declared.list_part.EntryStep.{EntryStep}

-- one step more is written
pub next_step : (before : List ℕ) (steps : List EntryStep) (i : ℕ) (step : EntryStep) (shown whole : List ℕ)
    → i < length steps → step ≡ get_or steps i step → shown ++ steps_after before (drop i steps) ≡ whole
    → (shown ++ (before ++ step_text step)) ++ steps_after (codes ": config: ") (drop (i + 1) steps) ≡ whole
next_step before steps i step shown whole within here so_far =
    let rest = steps_after (codes ": config: ") (drop (i + 1) steps) in
    append_assoc shown (before ++ step_text step) rest ∙ ap (λ l. shown ++ l) (append_assoc before (step_text step) rest)
    ∙ ap (λ left. shown ++ steps_after before left) (sym (drop_more steps i step within ∙ ap (λ y. y ∷ drop (i + 1) steps) (sym here)))
    ∙ so_far

-- one character more is written
pub next_sign : (in_graph : Bool) (left rest : List ℕ) (c : ℕ) (shown whole : List ℕ) → IsUtf8 left → left ≡ encode_utf8 c ++ rest
    → shown ++ escaped_text in_graph left ≡ whole → (shown ++ sign_text in_graph c) ++ escaped_text in_graph rest ≡ whole
next_sign in_graph left rest c shown whole utf8 is so_far =
    append_assoc shown (sign_text in_graph c) (escaped_text in_graph rest)
    ∙ ap (λ l. shown ++ l) (sym (escaped_step left rest c utf8 is)) ∙ so_far
  where
    escaped_step : (left rest : List ℕ) (c : ℕ) → IsUtf8 left → left ≡ encode_utf8 c ++ rest → escaped_text in_graph left ≡ sign_text in_graph c ++ escaped_text in_graph rest
    escaped_step left rest c utf8 is = rw (chars_past_char left rest c utf8 is) refl

-- all characters are written
pub all_signs : (in_graph : Bool) (left shown whole : List ℕ) → length left ≡ 0 → shown ++ escaped_text in_graph left ≡ whole → shown ≡ whole
all_signs in_graph left shown whole is so_far = sym (append-nil shown) ∙ ap (λ l. shown ++ l) (sym (none left is)) ∙ so_far
  where
    none : (left : List ℕ) → length left ≡ 0 → escaped_text in_graph left ≡ []
    none left is = rw (nil_from_length left is, chars-nil) refl
