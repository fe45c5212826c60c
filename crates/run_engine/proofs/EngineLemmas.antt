-- What the engine's player makes of a line.
use Rattle.std.proofs.Common.{◌≡◌, ℕ, Bool, false, true, List, [], ◌∷◌, ◌++◌, Option, Result, Ok, Err, refl, sym, ◌∙◌, ap, subst}
use Rattle.own_model.specs.World.{World}
use Rattle.run_lines.specs.Answer.{AnswersLine, answer_text}
use Rattle.run_lines.specs.Answered.{after_all, output_of_lines}
use Rattle.run_lines.specs.Faults.{Fails}
use Rattle.run_devices.specs.RunOutput.{OutputsUnless}
use Rattle.run_lines.specs.LineRuns.{Continues, HandlesLine}
use Rattle.run_lines.specs.declared.line_answer.LineAnswer.{LineAnswer}
use Rattle.run_lines.specs.declared.line_run_fault.LineRunFault.{LineRunFault}
use Rattle.run_lines.specs.declared.line_run_fault.LineRunFault.TheVariants.{ReadFault, WriteFault, TooManyLines, NoMemory}
use Rattle.run_lines.proofs.AnsweringLemmas.{told_answer}
use Rattle.run_lines.proofs.ToldLemmas.{left_by_both, told_of_both}

-- it goes on, or a write failed
goes_on : {T : Type 0} {A : Type 0} (only : Option (List ℕ)) (start new : World) (lines : List (List ℕ)) (result : Result T LineRunFault) (write_failed : Bool) → A → new ≡ after_all only start lines → Fails result write_failed false →
    Continues (λ lines. A × (new ≡ after_all only start lines)) (λ fault lines. (fault ≡ WriteFault) × (new ≡ after_all only start lines)) lines result
goes_on only start new lines (Ok done) write_failed same left fails = (same, left)
goes_on only start new lines (Err ReadFault) write_failed same left fails = absurd fails
goes_on only start new lines (Err WriteFault) write_failed same left fails = (refl, left)
goes_on only start new lines (Err TooManyLines) write_failed same left fails = absurd fails
goes_on only start new lines (Err NoMemory) write_failed same left fails = absurd (let e : false ≡ true = fails.1 in cc)

-- a line behind others is answered, and its answer told
pub engine_plays : {T : Type 0} {A : Type 0} (now only : Option (List ℕ)) (start old new : World) (earlier : List (List ℕ)) (line : List ℕ) (answer : Option LineAnswer) (result : Result T LineRunFault) (write_failed : Bool) (w w' : Option (List ℕ)) (g g' : List ℕ) →
    A → now ≡ only → old ≡ after_all only start earlier → AnswersLine now old line answer → new ≡ after_all now old (line ∷ []) →
    OutputsUnless result w g w' g' (answer_text answer) → Fails result write_failed false →
    HandlesLine (output_of_lines only start) (λ lines. A × (new ≡ after_all only start lines)) (λ fault lines. (fault ≡ WriteFault) × (new ≡ after_all only start lines)) earlier line result w g w' g'
engine_plays now only start old new earlier line answer result write_failed w w' g g' kept same led answers left tells fails = record {
  piece = output_of_lines only old (line ∷ []);
  more = sym (told_of_both only start old earlier (line ∷ []) led);
  tells = subst (OutputsUnless result w g w' g') (told_answer now old line answer answers ∙ ap (λ o. output_of_lines o old (line ∷ [])) same) tells;
  goes_on = goes_on only start new (earlier ++ line ∷ []) result write_failed kept (left_by_both only start old new earlier (line ∷ []) led (left ∙ ap (λ o. after_all o old (line ∷ [])) same)) fails;
}
