-- The shortest of those that pass a test, by their lengths.
use Rattle.std.specs.Prelude.{◌≡◌, ℕ, ◌≤◌, Bool, true, false, List, nat_lt, Option, Some, None, All, Contains}

-- one of these passes a test, and no shorter one does
pub record IsLeast {X : Type 0} (size : X → ℕ) (test : X → Bool) (all : List X) (best : X) : Type 0 where
  pub there : Contains all best
  pub passes : test best ≡ true
  pub least : All (λ one. test one ≡ true → size best ≤ size one) all

-- one is shorter than another one, or there is no other one
abbrev pub is_shorter : {X : Type 0} → (X → ℕ) → X → Option X → Bool
is_shorter size one None = true
is_shorter size one (Some other) = nat_lt (size one) (size other)

-- a shortest one that passes, or none passes
abbrev pub IsShortest : {X : Type 0} → (X → ℕ) → (X → Bool) → List X → Option X → Type 0
IsShortest size test all None = All (λ one. test one ≡ false) all
IsShortest size test all (Some best) = IsLeast size test all best
