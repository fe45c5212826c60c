-- Observers of each answered call.
use Rattle.std.specs.Prelude.{◌≡◌, ℕ, List, [], ◌∷◌, ◌++◌}
use Rattle.own_model.specs.Transcript.{heard}
use Rattle.own_model.specs.World.{World, world_running}
use Rattle.run_lines.specs.Answer.{IsAnswer}
use Rattle.run_lines.specs.declared.line_answer.LineAnswer.{LineAnswer}

-- after earlier calls from a start a call has this answer, and leaves this world
pub record IsAnsweredAfter (start : World) (earlier : List (List ℕ)) (call : List ℕ) (left : World) (answer : LineAnswer) : Type 0 where
  pub leaves : left ≡ world_running start (earlier ++ call ∷ [])
  pub answers : IsAnswer (world_running start earlier) (heard start.entries call) answer

-- earlier calls from a start led to this world, and they are those that were observed
pub record Watches (seen : World → List (List ℕ) → Type 0) (start : World) (earlier : List (List ℕ)) (world : World) : Type 0 where
  pub leads : world ≡ world_running start earlier
  pub sees : seen start earlier
