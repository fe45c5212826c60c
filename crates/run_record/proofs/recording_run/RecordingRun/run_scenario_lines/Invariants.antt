-- What is left of the text is still to be played.
use Rattle.std.proofs.Common.{◌≡◌, ◌+◌, ◌++◌, length}
use Rattle.std.specs.Option.{option_copied, option_map_or}
use Rattle.own_model.specs.Listed.{start_list_of}
use Rattle.own_model.specs.StartList.{entries_of}
use Rattle.run_record.specs.Marked.{all_marked}
use Rattle.run_record.specs.Pieces.{pieces_in}
use Rattle.run_record.specs.RecordedCalls.{events}
use Rattle.run_record.specs.Recorded.{pieces_of}
use Rattle.run_record.specs.LineErrors.{errors_view, recording_errors_from}
use Rattle.run_record.specs.Views.{marks_view, recording_in}
use Rattle.run_record.proofs.recording_run.RecordingRun.run_scenario_lines.Given as goal

abbrev pub invariant-loop-rest : goal.invariant-loop-rest
invariant-loop-rest g l = record {
  marked :
      all_marked (events l.initial.self.all (recording_in l.list l.initial.self.position l.initial.self.awaits l.initial.core) (pieces_of l.scenario))
      (marks_view l.initial.self.marks.marks.items)
      ≡ all_marked (events l.self.all (recording_in l.list l.self.position l.self.awaits l.core) (pieces_in (option_copied l.rest)))
      (marks_view l.self.marks.marks.items);
  errors :
      errors_view l.self.errors.items ++ recording_errors_from (recording_in l.list l.self.position l.self.awaits l.core) (pieces_in (option_copied l.rest))
      ≡ errors_view l.initial.self.errors.items
      ++ recording_errors_from (recording_in l.list l.initial.self.position l.initial.self.awaits l.initial.core) (pieces_of l.scenario);
  all : l.self.all ≡ l.initial.self.all;
  listed : l.core.entries ≡ entries_of (start_list_of l.list);
}

abbrev pub decreases-loop-rest : goal.decreases-loop-rest
decreases-loop-rest g l = option_map_or (λ text. length text.now + 1) l.rest 0
