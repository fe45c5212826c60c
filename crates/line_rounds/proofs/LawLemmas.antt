-- A text in which no line begins with `@` is itself.
use Rattle.std.proofs.Common.{◌≡◌, ◌≢◌, ◌∷◌, ℕ, false, suc, List, [], slice_index, refl, arith}
use Rattle.std.proofs.lemmas.Bool.Decides.{nat_tests}
use Rattle.std.specs.List.{All}
use Rattle.own_model.specs.Text.{lines_of}
use Rattle.line_friendly.specs.Friendly.{trimmed_line}
use Rattle.line_names.specs.Filling.{is_directive}
use Rattle.line_rounds.specs.Theorems.{PlainTextsStay}
use Rattle.line_rounds.specs.Structure.{kind_of}
use Rattle.line_rounds.specs.Unfolding.{has_rounds}
use Rattle.line_rounds.specs.declared.lines.RoundLineKind.TheVariants.{Plain}

plain_kind : (line : List ℕ) → slice_index (trimmed_line line) 0 ≢ 64 → kind_of line ≡ Plain
plain_kind line other = let no : is_directive line ≡ false = grind (arith, nat_tests) in rw no refl

has_none : (lines : List (List ℕ)) → All (λ line. slice_index (trimmed_line line) 0 ≢ 64) lines → has_rounds lines ≡ false
has_none [] plain = refl
has_none (line ∷ lines) plain =
    let first : kind_of line ≡ Plain = plain_kind line (plain 0 line (omega arith)) in
    let rest : All (λ l. slice_index (trimmed_line l) 0 ≢ 64) lines = λ k d within. plain (suc k) d (omega (arith, within)) in
    rw (first, has_none lines rest) refl

pub plain_texts_stay : PlainTextsStay
plain_texts_stay given text plain = rw (has_none (lines_of text) plain) refl
