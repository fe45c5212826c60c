-- A line is another one as both are read.
use Rattle.std.proofs.Common.{◌≡◌, ◌==◌, ◌&&◌, Bool, true, false, None, Some, sym, refl, ap, ◌∙◌}
use Rattle.std.proofs.lemmas.Bool.Decides.{same_from_decides, Decides-and, Decides-eqb, Decides-like}
use Rattle.std.proofs.lemmas.Slice.Eq.{bytes_eq-Decides}
use Rattle.std.specs.Bool.{Decides}
use Rattle.std.specs.Prelude.{◌↔◌, not, if◌then◌else◌, IsTrue}
use Rattle.std.specs.Str.{bytes_eq}
use Rattle.budget_least.specs.ChangedLines.{is_same}
use Rattle.budget_least.specs.ComponentLines.{line_of}
use Rattle.budget_search.specs.Lines.{IsSameLine}
use Rattle.budget_search.specs.declared.component_line.ComponentLine.{ComponentLine}
use Rattle.budget_least.proofs.changed_line.unlike_number.Goals as goal

both_or_neither : (one other : Bool) → Decides (if one then other else not other) (one ≡ other)
both_or_neither true other = (λ is. sym is, λ is. sym is)
both_or_neither false true = (λ is. is, λ is. is)
both_or_neither false false = (λ is. refl, λ is. refl)

told : (one other : ComponentLine) (alike : Bool) → (IsTrue alike ↔ IsSameLine one other) → alike ≡ is_same (line_of one) (line_of other)
told one other alike is =
    let left_out = if one.is_left_out then other.is_left_out else not other.is_left_out in
    let text = bytes_eq one.line.items other.line.items in
    same_from_decides alike (is_same (line_of one) (line_of other)) is
    (Decides-like (is_same (line_of one) (line_of other)) (λ parts. record { number = parts.0.0; left_out = parts.0.1; text = parts.1 })
    (λ same. ((same.number, same.left_out), same.text))
    (Decides-and (one.number == other.number && left_out) text
    (Decides-and (one.number == other.number) left_out (Decides-eqb one.number other.number) (both_or_neither one.is_left_out other.is_left_out))
    (bytes_eq-Decides one.line.items other.line.items)))

pub returns-then-is_like : goal.returns-then-is_like
returns-then-is_like c =
    ap (λ b. if b then None else Some c.args.step.now.number) (sym c.if-is_like.true ∙ told c.args.step.now c.args.other.now c.is_like.result c.is_like.ensures)

pub returns : goal.returns
returns c = ap (λ b. if b then None else Some c.args.step.now.number) (sym c.if-is_like.false ∙ told c.args.step.now c.args.other.now c.is_like.result c.is_like.ensures)
