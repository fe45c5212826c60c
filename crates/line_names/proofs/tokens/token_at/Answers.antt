-- A column past the end begins nothing.
use Rattle.std.proofs.Common.{◌≡◌, ◌∙◌, ◌-◌, ℕ, List, ap, arith, drop, length, take}
use Rattle.std.proofs.lemmas.List.{drop_min, length-drop, take_all}
use Rattle.line_names.specs.Tokens.{token_of}
use Rattle.line_names.proofs.tokens.token_at.Goals as goal

-- a slice up to the end is the rest
rest_is : (xs : List ℕ) (n : ℕ) → take (length xs - n) (drop n xs) ≡ drop n xs
rest_is xs n = take_all (length xs - n) (drop n xs) (omega (arith, length-drop n xs))

pub returns : goal.returns
returns c =
    c.token_of.ensures ∙ ap token_of (rest_is c.args.line.now c.min.result
    ∙ ap (λ n. drop n c.args.line.now) c.min.ensures ∙ drop_min c.saturating_sub.result c.args.line.now
    ∙ ap (λ n. drop n c.args.line.now) c.saturating_sub.ensures)
