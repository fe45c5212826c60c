-- What is in bytes in memory that doesn't grow.
use Rattle.std.specs.Prelude.{ℕ, List}

-- the bytes that are written, and how many there can be at most
pub record Written : Type 0 where
  pub text : List ℕ
  pub size : ℕ
