-- Texts that are added one behind the other.
use Rattle.std.proofs.Common.{◌≡◌, ◌∙◌, ◌++◌, ℕ, List, Result, OnOk, append_assoc, ap}
use Rattle.std.proofs.lemmas.Result.{on_ok_weaker}

pub two_added : {T E : Type 0} (r : Result T E) (old one two x y : List ℕ) → one ≡ old ++ x → OnOk r (two ≡ one ++ y)
    → OnOk r (two ≡ old ++ (x ++ y))
two_added r old one two x y first =
    on_ok_weaker r (λ (then : two ≡ one ++ y). then ∙ ap (λ text. text ++ y) first ∙ append_assoc old x y)
