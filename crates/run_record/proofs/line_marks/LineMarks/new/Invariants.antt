-- What is left of the scenario is still to be kept.
use Rattle.std.proofs.Common.{◌≡◌, ◌+◌, ◌++◌, length}
use Rattle.std.specs.Option.{option_copied, option_map_or}
use Rattle.run_record.specs.Marked.{unmarked}
use Rattle.run_record.specs.Pieces.{pieces_in}
use Rattle.run_record.specs.Recorded.{pieces_of}
use Rattle.run_record.specs.Views.{marks_view}
use Rattle.run_record.proofs.line_marks.LineMarks.new.Given as goal

abbrev pub invariant-loop-rest : goal.invariant-loop-rest
invariant-loop-rest l =
    marks_view l.marks.items ++ unmarked (pieces_in (option_copied l.rest)) ≡ unmarked (pieces_of l.scenario)

abbrev pub decreases-loop-rest : goal.decreases-loop-rest
decreases-loop-rest l = option_map_or (λ text. length text.now + 1) l.rest 0
