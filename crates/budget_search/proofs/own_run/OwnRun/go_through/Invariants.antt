-- What is left of the calls is what the lines to come make.
use Rattle.std.proofs.Common.{◌≡◌, ◌<◌, List, None, drop, length}
use Rattle.own_model.specs.Amounts.{Amounts}
use Rattle.own_model.specs.Call.{Call}
use Rattle.own_model.specs.OwnState.{OwnState}
use Rattle.own_model.specs.Transcript.{entry_at}
use Rattle.budget_meter.specs.Needs.{amounts_of}
use Rattle.budget_search.specs.Run.{HasLeft, HasLinesLeft}
use Rattle.budget_search.specs.OwnLines.{own_lines}
use Rattle.budget_search.specs.RunLines.{RunLines}
use Rattle.budget_search.specs.Steps.{calls_of}
use Rattle.budget_search.proofs.own_run.OwnRun.go_through.Given as goal

abbrev pub invariant-loop-step : goal.invariant-loop-step
invariant-loop-step g l = record {
  there : l.self.component < length l.self.core.now.entries;
  none : l.self.trial.refused ≡ None;
  entry : entry_at l.self.core.now.entries l.self.component ≡ entry_at l.initial.self.core.now.entries l.initial.self.component;
  meter : l.self.trial.meter ≡ l.initial.self.trial.meter;
  left : (calls : List Call) (budget : Amounts) (s : OwnState) →
      HasLeft l.initial.self.core.now l.initial.self.component l.initial.self.heard calls (calls_of l.steps) budget s →
      HasLeft l.self.core.now l.self.component l.self.heard calls (calls_of (drop l.step-index l.steps)) budget s;
  lines : (whole : RunLines) →
      HasLinesLeft l.initial.self.core.now l.initial.self.component l.initial.self.heard l.initial.self.trial.left_out.items
      (own_lines (entry_at l.initial.self.core.now.entries l.initial.self.component) (amounts_of l.initial.self.trial.meter.start) l.steps) whole →
      HasLinesLeft l.self.core.now l.self.component l.self.heard l.self.trial.left_out.items
      (own_lines (entry_at l.self.core.now.entries l.self.component) (amounts_of l.self.trial.meter.start) (drop l.step-index l.steps)) whole;
}
