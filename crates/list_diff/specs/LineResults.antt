-- What came of the lines of a scenario, by the answered calls of its run.
use Rattle.std.specs.Prelude.{ℕ, ◌||◌, Bool, true, is_none, List, [], ◌∷◌, map, Option, Some, None}
use Rattle.std.specs.Borrow.{Bor}
use Rattle.run_exchanges.specs.Exchange.{Exchange}
use Rattle.line_friendly.specs.Expected.{can_pass}
use Rattle.line_friendly.specs.Friendly.{content_of, is_meant, is_passed}
use Rattle.line_names.specs.Learning.{learnt}
use Rattle.line_steps.specs.ResolvedLines.{ResolvedLine, resolved_line}
use Rattle.line_steps.specs.ResolvedLines.ResolvedLine.{Follow, Call, TooLong as LongLine, BadName, Misplaced as MisplacedLine, BadLine}
use Rattle.line_steps.specs.RunPosition.{RunPosition, arrived, passed, position_following}
use Rattle.list_diff.specs.declared.line_outcomes.LineOutcome.{LineOutcome}
use Rattle.list_diff.specs.declared.line_outcomes.LineOutcome.TheVariants.{Answered, Faulty, Silent}
use Rattle.list_diff.specs.declared.line_outcomes.LineResult.{LineResult}
use Rattle.list_diff.specs.declared.line_outcomes.ResolutionFault.{ResolutionFault}
use Rattle.list_diff.specs.declared.line_outcomes.ResolutionFault.TheVariants.{TooLong, Name, Misplaced, Line}

-- a line with its number, its answered call if it makes one, its fault if it has one, and whether it was understood
pub record LineCall : Type 0 where
  pub number : ℕ
  pub line : List ℕ
  pub made : Option Exchange
  pub fault : Option ResolutionFault
  pub understood : Bool

-- the answered call of a line
abbrev pub made_in : LineOutcome → Option Exchange
made_in (Answered exchange) = Some exchange.now
made_in (Faulty fault) = None
made_in Silent = None

-- the fault of a line
abbrev pub fault_in : LineOutcome → Option ResolutionFault
fault_in (Answered exchange) = None
fault_in (Faulty fault) = Some fault
fault_in Silent = None

abbrev pub call_in : LineResult → LineCall
call_in result =
    record {
      number = result.number;
      line = result.line.now;
      made = made_in result.outcome;
      fault = fault_in result.outcome;
      understood = result.is_understood;
    }

-- a run that is followed line by line: its position, and the answered calls that are ahead
pub record FollowedRun : Type 0 where
  pub position : RunPosition
  pub ahead : List Exchange

-- the answered call of a resolved line: if it is a call, the next one
abbrev pub made_by : ResolvedLine → List Exchange → Option Exchange
made_by (Call filled line reply) (exchange ∷ ahead) = Some exchange
made_by (Call filled line reply) [] = None
made_by resolved ahead = None

-- the fault of a resolved line: it is too long, or a name, the directive or the call in it has one
abbrev pub fault_by : ResolvedLine → Option ResolutionFault
fault_by LongLine = Some TooLong
fault_by (BadName fault) = Some (Name fault)
fault_by (MisplacedLine column why) = Some (Misplaced why)
fault_by (BadLine fault) = Some (Line fault)
fault_by resolved = None

-- a resolved line is understood: it has no fault, and its reply doesn't say otherwise, unless the line expects that or is meant
abbrev pub understood_by : List ℕ → ResolvedLine → List Exchange → Bool
understood_by line (Call filled call reply) (exchange ∷ ahead) = can_pass reply exchange.reply || (is_passed line || is_meant (content_of line))
understood_by line (Call filled call reply) [] = true
understood_by line resolved ahead = is_none (fault_by resolved)

-- the run after a resolved line: a directive is followed, and the reply to a call binds the names of its line
abbrev pub followed_by : FollowedRun → ResolvedLine → List Exchange → FollowedRun
followed_by run (Follow directive) ahead = record { position = position_following run.position directive; ahead = ahead }
followed_by run (Call filled line reply) (exchange ∷ ahead) =
    record { position = record run.position { known = learnt run.position.known filled exchange.reply }; ahead = ahead }
followed_by run (Call filled line reply) [] = record { position = run.position; ahead = [] }
followed_by run resolved ahead = record { position = run.position; ahead = ahead }

-- what a line is at the position of a run
abbrev pub resolved_on : FollowedRun → List ℕ → ResolvedLine
resolved_on run line = resolved_line None run.position.known line

-- the run after a line: rounds may begin or end there
abbrev pub run_after : FollowedRun → List ℕ → FollowedRun
run_after run line =
    let next = followed_by (record run { position = passed run.position }) (resolved_on run line) run.ahead in
    record next { position = arrived next.position }

-- the lines with their answered calls and their faults
abbrev pub line_calls : FollowedRun → List (List ℕ) → List LineCall
line_calls run [] = []
line_calls run (line ∷ lines) =
    record {
      number = run.position.number;
      line = line;
      made = made_by (resolved_on run line) run.ahead;
      fault = fault_by (resolved_on run line);
      understood = understood_by line (resolved_on run line) run.ahead;
    }
    ∷ line_calls (run_after run line) lines

-- the bytes of lines
abbrev pub bytes_of : List (Bor (List ℕ)) → List (List ℕ)
bytes_of lines = map (λ line. line.now) lines
