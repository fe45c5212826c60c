-- Tables of errors: what a request is refused for, in order.
use Rattle.std.specs.Prelude.{Bool, List, [], ◌∷◌, if◌then◌else◌, Option, Some, None}

-- an error, and whether its condition holds
pub record Tested (E : Type 0) : Type 0 where
  pub error : E
  pub fails : Bool

abbrev pub when : {E : Type 0} → Bool → E → Tested E
when fails error = record { error = error; fails = fails }

-- the first error whose condition holds
abbrev pub first_of : {E : Type 0} → List (Tested E) → Option E
first_of [] = None
first_of (test ∷ tests) = if test.fails then Some test.error else first_of tests
