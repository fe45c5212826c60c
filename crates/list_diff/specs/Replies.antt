-- The lines of two runs that are answered differently.
use Rattle.std.specs.Prelude.{◌≡◌, ⊤, ℕ, ◌&&◌, Bool, true, false, not, List, [], ◌∷◌, ◌++◌, map, if◌then◌else◌, Option, Some, None}
use Rattle.std.specs.Str.{bytes_eq}
use Rattle.list_diff.specs.declared.line_outcomes.LineOutcome.{LineOutcome}
use Rattle.list_diff.specs.declared.line_outcomes.LineOutcome.TheVariants.{Answered, Faulty, Silent}
use Rattle.list_diff.specs.declared.line_outcomes.LineResult.{LineResult}
use Rattle.list_diff.specs.declared.reply_changes.AlignmentStep.{AlignmentStep}
use Rattle.list_diff.specs.declared.reply_changes.AlignmentStep.TheVariants.{Kept, Removed, Added}
use Rattle.list_diff.specs.declared.reply_changes.ComparedLines.{ComparedLines}
use Rattle.list_diff.specs.declared.reply_changes.ComparedLines.TheVariants.{Changed, Misread}
use Rattle.list_diff.specs.declared.reply_changes.ReplyChange.{ReplyChange}

-- the reply to a line, if the line was answered
abbrev pub outcome_reply : LineOutcome → Option (List ℕ)
outcome_reply (Answered exchange) = Some exchange.now.reply
outcome_reply (Faulty fault) = None
outcome_reply Silent = None

-- and if the text has the line
abbrev pub reply_to : Option LineResult → Option (List ℕ)
reply_to None = None
reply_to (Some line) = outcome_reply line.outcome

-- two replies are the same, or there is none
abbrev pub same_reply : Option (List ℕ) → Option (List ℕ) → Bool
same_reply None None = true
same_reply (Some was) (Some now) = bytes_eq was now
same_reply None (Some now) = false
same_reply (Some was) None = false

-- a line isn't understood, or the text doesn't have it
abbrev pub lacks_meaning : Option LineResult → Bool
lacks_meaning None = true
lacks_meaning (Some line) = not line.is_understood

-- a line is sought that is answered differently on both sides, or that is understood on none
abbrev pub is_sought : ComparedLines → Option LineResult → Option LineResult → Bool
is_sought Changed was now = not (same_reply (reply_to was) (reply_to now))
is_sought Misread was now = lacks_meaning was && lacks_meaning now

abbrev pub compared_line : ComparedLines → Option LineResult → Option LineResult → List ReplyChange
compared_line wanted was now = if is_sought wanted was now then record { was = was; now = now } ∷ [] else []

-- the lines that are sought among lines that are aligned by their place, in order
abbrev pub compared_by_place : ComparedLines → List LineResult → List LineResult → List ReplyChange
compared_by_place wanted [] after = []
compared_by_place wanted (was ∷ before) [] = []
compared_by_place wanted (was ∷ before) (now ∷ after) =
    compared_line wanted (Some was) (Some now) ++ compared_by_place wanted before after

-- ---- two texts

-- the lines of a text
abbrev pub text_of : List LineResult → List (List ℕ)
text_of lines = map (λ line. line.line.now) lines

-- the steps from one text to another: a line stays, a line of the text before is removed, a line of the text after is added
abbrev pub Aligns : List AlignmentStep → List LineResult → List LineResult → Type 0
Aligns [] [] [] = ⊤
Aligns (Kept ∷ steps) (was ∷ before) (now ∷ after) = (was.line.now ≡ now.line.now) × Aligns steps before after
Aligns (Removed ∷ steps) (was ∷ before) after = Aligns steps before after
Aligns (Added ∷ steps) before (now ∷ after) = Aligns steps before after
Aligns _ _ _ = ⊥

-- the lines that are sought, step by step
abbrev pub compared_along : ComparedLines → List AlignmentStep → List LineResult → List LineResult → List ReplyChange
compared_along wanted (Kept ∷ steps) (was ∷ before) (now ∷ after) =
    compared_line wanted (Some was) (Some now) ++ compared_along wanted steps before after
compared_along wanted (Removed ∷ steps) (was ∷ before) after =
    compared_line wanted (Some was) None ++ compared_along wanted steps before after
compared_along wanted (Added ∷ steps) before (now ∷ after) =
    compared_line wanted None (Some now) ++ compared_along wanted steps before after
compared_along wanted _ _ _ = []

-- each line of both texts is in one step, lines in one step have one text, and these are the steps that are sought
pub record AreCompared (wanted : ComparedLines) (before after : List LineResult) (found : List ReplyChange) : Type 0 where
  pub steps : List AlignmentStep
  pub aligns : Aligns steps before after
  pub are : found ≡ compared_along wanted steps before after

-- ---- the next step

-- a step can be taken; lines that begin both texts alike stay
abbrev pub IsStep : List LineResult → List LineResult → AlignmentStep → Type 0
IsStep (was ∷ before) (now ∷ after) Kept = was.line.now ≡ now.line.now
IsStep (was ∷ before) [] Removed = ⊤
IsStep (was ∷ before) (now ∷ after) Removed = bytes_eq was.line.now now.line.now ≡ false
IsStep [] (now ∷ after) Added = ⊤
IsStep (was ∷ before) (now ∷ after) Added = bytes_eq was.line.now now.line.now ≡ false
IsStep _ _ _ = ⊥

-- a step takes a line of the text before
abbrev pub has_old : AlignmentStep → Bool
has_old Kept = true
has_old Removed = true
has_old Added = false

-- a step takes a line of the text after
abbrev pub has_new : AlignmentStep → Bool
has_new Kept = true
has_new Removed = false
has_new Added = true

-- the first line, if a step takes it
abbrev pub first_if : Bool → List LineResult → Option LineResult
first_if false lines = None
first_if true [] = None
first_if true (line ∷ lines) = Some line

-- the lines without the first, if a step takes it
abbrev pub behind_if : Bool → List LineResult → List LineResult
behind_if false lines = lines
behind_if true [] = []
behind_if true (line ∷ lines) = lines
