-- A call with its reply.
use Rattle.std.specs.Prelude.{ℕ, List}

-- the component that makes the call, as the reply names it; the engine's line, and the call in it, or the whole line if it
-- makes none; the reply
pub record Exchange : Type 0 where
  pub name : List ℕ
  pub line : List ℕ
  pub call : List ℕ
  pub reply : List ℕ
