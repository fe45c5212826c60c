-- What a run writes into the errors: the reports of its lines, one after another.
use Rattle.std.specs.Prelude.{◌≡◌, ℕ, List, [], ◌∷◌, ◌++◌, Option}
use Rattle.std.specs.Io.KnownBytes.{Appends}
use Rattle.own_model.specs.Listed.{Listed}
use Rattle.own_model.specs.World.{World}
use Rattle.line_steps.specs.RunPosition.{RunPosition}
use Rattle.view_diagnostics.specs.Diagnostics.{SubjectAt}
use Rattle.run_scenario.specs.Judging.{Awaited, awaited_after, awaited_behind, has_error}
use Rattle.run_scenario.specs.LineSteps.{is_meant_line, left_behind, next_position, resolved_at}
use Rattle.run_scenario.specs.Reports.{AppendsReport, IsReport, left_over_report}
use Rattle.run_scenario.specs.Writes.{RunStart, steps_from}

-- the subject of a run's diagnostics, and the list whose components its lines call
pub record ReportScope : Type 0 where
  pub subject : SubjectAt
  pub list : Listed

abbrev pub scope_of : SubjectAt → Listed → ReportScope
scope_of subject list = record { subject = subject; list = list }

-- this is written for a line at a position: one error if the line has one, and else nothing
abbrev pub IsReported : ReportScope → Option (List ℕ) → World → RunPosition → List ℕ → Awaited → List ℕ → Type 0
IsReported scope only world position line awaited text =
    IsReport scope.subject position.number (has_error scope.list only world (is_meant_line line) (resolved_at only position line) awaited) text

-- and it is appended to what is written before
abbrev pub ReportsLine : ReportScope → Option (List ℕ) → World → RunPosition → List ℕ → Awaited → Option (List ℕ) → Option (List ℕ) → Type 0
ReportsLine scope only world position line awaited old new =
    AppendsReport scope.subject position.number (has_error scope.list only world (is_meant_line line) (resolved_at only position line) awaited) old new

-- this is written for lines, one after another
abbrev pub AreReported : ReportScope → Option (List ℕ) → World → RunPosition → Awaited → List (List ℕ) → List ℕ → Type 0
AreReported scope only world position awaited [] text = text ≡ []
AreReported scope only world position awaited (line ∷ lines) text =
    (first rest : List ℕ) × (text ≡ first ++ rest) × IsReported scope only world position line awaited first
    × AreReported scope only (left_behind only world position line) (next_position only world position line)
    (awaited_after position.number (resolved_at only position line) awaited) lines rest

-- the reports of lines from a start on are written
abbrev pub WritesReports : ReportScope → RunStart → Option (List ℕ) → Option (List ℕ) → List (List ℕ) → Type 0
WritesReports scope start old new lines =
    (text : List ℕ) × AreReported scope start.only start.world start.position start.awaited lines text × Appends old new text

-- and then that of an expected log line that no call follows, if there is one
pub record WritesAllReports (scope : ReportScope) (start : RunStart) (old new : Option (List ℕ)) (lines : List (List ℕ)) : Type 0 where
  pub text : List ℕ
  pub reported : AreReported scope start.only start.world start.position start.awaited lines text
  pub writes : Appends old new (text ++ left_over_report scope.subject (awaited_behind start.awaited (steps_from start lines)))
