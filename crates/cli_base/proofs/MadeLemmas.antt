-- A value that was made, or the status in place of it.
use Rattle.std.proofs.Common.{◌≡◌, Result, Ok, Err, IfOk, subst}

-- what holds of the value that was made holds of the one that is returned
pub on_made : {T E F : Type 0} (P : T → Type 0) (returned : Result T F) (made : Result T E) → IfOk returned (λ value. made ≡ Ok value) → IfOk made P → IfOk returned P
on_made P (Ok value) made is holds = subst (λ m. IfOk m P) is holds
on_made P (Err status) made is holds = tt
