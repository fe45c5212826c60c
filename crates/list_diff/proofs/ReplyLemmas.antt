-- What is found, step by step.
use Rattle.std.proofs.Common.{◌≡◌, ◌∙◌, ◌++◌, ◌∷◌, List, [], true, false, Some, None, drop, get_or, length, arith, refl, sym, ap, subst, true≢false}
use Rattle.std.proofs.lemmas.List.{append_assoc, append-nil}
use Rattle.std.proofs.lemmas.Slice.Eq.{bytes_eq-Decides}
use Rattle.std.specs.Str.{bytes_eq}
use Rattle.list_diff.specs.Replies.{AreCompared, IsStep, behind_if, compared_line, compared_by_place, first_if, has_new, has_old, text_of}
use Rattle.list_diff.specs.declared.line_outcomes.LineResult.{LineResult}
use Rattle.list_diff.specs.declared.reply_changes.AlignmentStep.{AlignmentStep}
use Rattle.list_diff.specs.declared.reply_changes.AlignmentStep.TheVariants.{Kept, Removed, Added}
use Rattle.list_diff.specs.declared.reply_changes.ComparedLines.{ComparedLines}
use Rattle.list_diff.specs.declared.reply_changes.ReplyChange.{ReplyChange}

-- what is found so far, followed by the changes of the lines that are left, are the changes of all lines; and so it is by place,
-- if both texts are the same
pub record Goes (wanted : ComparedLines) (before after rest rest_after : List LineResult) (found : List ReplyChange) : Type 0 where
  pub all : (more : List ReplyChange) → AreCompared wanted rest rest_after more → AreCompared wanted before after (found ++ more)
  pub same : text_of before ≡ text_of after → text_of rest ≡ text_of rest_after
  pub placed : text_of before ≡ text_of after → found ++ compared_by_place wanted rest rest_after ≡ compared_by_place wanted before after

-- a step more
pub step_more : (wanted : ComparedLines) (before after : List LineResult) (step : AlignmentStep) (more : List ReplyChange) → IsStep before after step
    → AreCompared wanted (behind_if (has_old step) before) (behind_if (has_new step) after) more
    → AreCompared wanted before after (compared_line wanted (first_if (has_old step) before) (first_if (has_new step) after) ++ more)
step_more wanted (was ∷ before) (now ∷ after) Kept more same it =
    record { steps = Kept ∷ it.steps; aligns = (same, it.aligns); are = ap (λ c. compared_line wanted (Some was) (Some now) ++ c) it.are }
step_more wanted (was ∷ before) [] Removed more same it =
    record { steps = Removed ∷ it.steps; aligns = it.aligns; are = ap (λ c. compared_line wanted (Some was) None ++ c) it.are }
step_more wanted (was ∷ before) (now ∷ after) Removed more same it =
    record { steps = Removed ∷ it.steps; aligns = it.aligns; are = ap (λ c. compared_line wanted (Some was) None ++ c) it.are }
step_more wanted [] (now ∷ after) Added more same it =
    record { steps = Added ∷ it.steps; aligns = it.aligns; are = ap (λ c. compared_line wanted None (Some now) ++ c) it.are }
step_more wanted (was ∷ before) (now ∷ after) Added more same it =
    record { steps = Added ∷ it.steps; aligns = it.aligns; are = ap (λ c. compared_line wanted None (Some now) ++ c) it.are }
step_more wanted [] [] Kept more same it = absurd same
step_more wanted [] (now ∷ after) Kept more same it = absurd same
step_more wanted (was ∷ before) [] Kept more same it = absurd same
step_more wanted [] [] Removed more same it = absurd same
step_more wanted [] (now ∷ after) Removed more same it = absurd same
step_more wanted [] [] Added more same it = absurd same
step_more wanted (was ∷ before) [] Added more same it = absurd same

-- texts that are the same have the same first line
first_same : (was now : LineResult) (before after : List LineResult) → text_of (was ∷ before) ≡ text_of (now ∷ after)
    → was.line.now ≡ now.line.now
first_same was now before after same = ap (λ lines. get_or lines 0 []) same

-- so no line is removed or added
same_kept : (was now : LineResult) (before after : List LineResult) → text_of (was ∷ before) ≡ text_of (now ∷ after)
    → bytes_eq was.line.now now.line.now ≡ false → true ≡ false
same_kept was now before after same other =
    sym ((bytes_eq-Decides was.line.now now.line.now).1 (first_same was now before after same)) ∙ other

-- texts that are the same stay so
same_more : (before after : List LineResult) (step : AlignmentStep) → IsStep before after step → text_of before ≡ text_of after
    → text_of (behind_if (has_old step) before) ≡ text_of (behind_if (has_new step) after)
same_more (was ∷ before) (now ∷ after) Kept is same = ap (λ lines. drop 1 lines) same
same_more (was ∷ before) (now ∷ after) Removed is same = absurd (true≢false (same_kept was now before after same is))
same_more (was ∷ before) (now ∷ after) Added is same = absurd (true≢false (same_kept was now before after same is))
same_more (was ∷ before) [] step is same = absurd (omega (arith, ap length same))
same_more [] (now ∷ after) step is same = absurd (omega (arith, ap length same))
same_more [] [] Kept is same = absurd is
same_more [] [] Removed is same = absurd is
same_more [] [] Added is same = absurd is

-- and their changes are those by place
placed_more : (wanted : ComparedLines) (before after : List LineResult) (step : AlignmentStep) → IsStep before after step → text_of before ≡ text_of after
    → compared_line wanted (first_if (has_old step) before) (first_if (has_new step) after)
    ++ compared_by_place wanted (behind_if (has_old step) before) (behind_if (has_new step) after) ≡ compared_by_place wanted before after
placed_more wanted (was ∷ before) (now ∷ after) Kept is same = refl
placed_more wanted (was ∷ before) (now ∷ after) Removed is same = absurd (true≢false (same_kept was now before after same is))
placed_more wanted (was ∷ before) (now ∷ after) Added is same = absurd (true≢false (same_kept was now before after same is))
placed_more wanted (was ∷ before) [] step is same = absurd (omega (arith, ap length same))
placed_more wanted [] (now ∷ after) step is same = absurd (omega (arith, ap length same))
placed_more wanted [] [] Kept is same = absurd is
placed_more wanted [] [] Removed is same = absurd is
placed_more wanted [] [] Added is same = absurd is

-- one step further
pub goes_on : (wanted : ComparedLines) (before after rest rest_after : List LineResult) (found : List ReplyChange) (step : AlignmentStep) → IsStep rest rest_after step
    → Goes wanted before after rest rest_after found
    → Goes wanted before after (behind_if (has_old step) rest) (behind_if (has_new step) rest_after)
    (found ++ compared_line wanted (first_if (has_old step) rest) (first_if (has_new step) rest_after))
goes_on wanted before after rest rest_after found step is goes =
    let change : List ReplyChange = compared_line wanted (first_if (has_old step) rest) (first_if (has_new step) rest_after) in
    record {
      all = λ more it. subst (λ c. AreCompared wanted before after c) (sym (append_assoc found change more))
          (goes.all (change ++ more) (step_more wanted rest rest_after step more is it));
      same = λ same. same_more rest rest_after step is (goes.same same);
      placed = λ same. append_assoc found change (compared_by_place wanted (behind_if (has_old step) rest) (behind_if (has_new step) rest_after))
          ∙ ap (λ c. found ++ c) (placed_more wanted rest rest_after step is (goes.same same)) ∙ goes.placed same;
    }

-- at the end all changes are found
pub goes_to_end : (wanted : ComparedLines) (before after rest rest_after : List LineResult) (found : List ReplyChange) → length rest ≡ 0 → length rest_after ≡ 0
    → Goes wanted before after rest rest_after found → AreCompared wanted before after found
goes_to_end wanted before after [] [] found ended ended_after goes =
    subst (λ c. AreCompared wanted before after c) (append-nil found) (goes.all [] (record { steps = []; aligns = tt; are = refl }))
goes_to_end wanted before after (was ∷ rest) rest_after found ended ended_after goes = absurd (omega (arith, ended))
goes_to_end wanted before after [] (now ∷ rest_after) found ended ended_after goes = absurd (omega (arith, ended_after))
