-- Where a text in quotes lies.
use Rattle.std.proofs.Common.{◌≡◌, ℕ, ◌≤◌, List, length, drop, min, [], ◌∷◌, refl, arith}
use Rattle.line_friendly.specs.CallParts.{CallTail}
use Rattle.line_friendly.specs.CallParts.CallTail.{Words, Kept, Sized, Request, Quoted}
use Rattle.line_friendly.specs.Views.{LiesIn}

-- within a longer text too
pub lies_wider : (tail : CallTail) (m n : ℕ) → LiesIn m tail → m ≤ n → LiesIn n tail
lies_wider (Words rest) m n lies more = tt
lies_wider (Kept rest) m n lies more = tt
lies_wider (Sized rest) m n lies more = tt
lies_wider (Request rest) m n lies more = tt
lies_wider (Quoted front inside left) m n lies more = (omega (arith, lies.0, more), lies.1)

pub ruleset lies = (lies_wider)
