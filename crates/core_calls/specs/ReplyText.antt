-- The text of a reply.
use Rattle.std.specs.Prelude.{ℕ, List, []}

-- the finished lines as they are printed, and the text of the reply
pub record Told : Type 0 where
  pub lines : List ℕ
  pub text : List ℕ

-- a text without log lines
abbrev pub told_alone : List ℕ → Told
told_alone text = record { lines = []; text = text }
