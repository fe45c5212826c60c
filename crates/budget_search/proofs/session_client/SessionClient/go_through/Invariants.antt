-- What is left to send is what the lines at the places to come do.
use Rattle.std.proofs.Common.{◌≡◌, List, None, drop}
use Rattle.own_model.specs.Amounts.{Amounts}
use Rattle.own_model.specs.Session.{Session}
use Rattle.budget_meter.specs.SessionRuns.{Sent}
use Rattle.budget_meter.specs.Needs.{amounts_of}
use Rattle.budget_search.specs.OpenedSessions.{HasLeft, sent_at, HasDue, whole_at}
use Rattle.budget_search.specs.RunLines.{RunLines}
use Rattle.budget_search.specs.SessionLines.{HasSessionLeft, lines_at}
use Rattle.budget_search.proofs.session_client.SessionClient.go_through.Given as goal

abbrev pub invariant-loop-place : goal.invariant-loop-place
invariant-loop-place g l = record {
  none : l.run.trial.refused ≡ None;
  same : l.self.client ≡ l.initial.self.client;
  entries : l.self.core.entries ≡ l.initial.self.core.entries;
  whole : whole_at l.self.core l.self.client ≡ whole_at l.initial.self.core l.initial.self.client;
  due : (due : Amounts) → HasDue l.initial.self.core l.initial.self.client due (sent_at l.steps l.places) →
      HasDue l.self.core l.self.client due (sent_at l.steps (drop l.place-index l.places));
  left : (sent : List Sent) (session : Session) (donation : Amounts) →
      HasLeft l.initial.self.core l.initial.self.client l.initial.run.heard sent (sent_at l.steps l.places) session donation →
      HasLeft l.self.core l.self.client l.run.heard sent (sent_at l.steps (drop l.place-index l.places)) session donation;
  meter : l.run.trial.meter ≡ l.initial.run.trial.meter;
  lines : (session : Session) (donation : Amounts) (whole : RunLines) →
      HasSessionLeft l.initial.self.core l.initial.self.client l.initial.run.heard session donation l.initial.run.trial.left_out.items
      (lines_at (amounts_of l.initial.run.trial.meter.start) l.steps l.places) whole →
      HasSessionLeft l.self.core l.self.client l.run.heard session donation l.run.trial.left_out.items
      (lines_at (amounts_of l.initial.run.trial.meter.start) l.steps (drop l.place-index l.places)) whole;
}
