-- Marks that are due, and those that aren't.
use Rattle.std.proofs.Common.{◌≡◌, ℕ, false, cond, nat_eq, List, [], ◌∷◌, refl, ap, sym}
use Rattle.line_names.specs.NameTable.{NameTable}
use Rattle.line_names.specs.RoundMarks.{RoundMark, crossed}
use Rattle.line_steps.specs.RunPosition.{RunPosition, arrived_at, is_due}

-- where none is due the run stays where it is
pub stays : (number : ℕ) (known : NameTable) (marks : List RoundMark) → is_due number marks ≡ false →
    record { number = number; known = known; ahead = marks } ≡ arrived_at number known marks
stays number known [] none = refl
stays number known (mark ∷ marks) none =
    sym (ap (λ due. cond due (arrived_at mark.next (crossed known mark) marks) (record { number = number; known = known; ahead = mark ∷ marks })) none)
