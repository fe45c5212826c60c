-- What the lines that are left end with is what all lines do.
use Rattle.std.proofs.Common.{◌≡◌, false, drop}
use Rattle.budget_least.specs.LineErrors.{judged_of, AreJudged, Judged}
use Rattle.budget_least.proofs.ReadingLemmas.{bytes_of}
use Rattle.budget_least.proofs.judged_run.JudgedRun.judge_all.Given as goal

abbrev pub invariant-loop-line : goal.invariant-loop-line
invariant-loop-line g l = record {
  left : (end : Judged) → AreJudged (bytes_of (drop l.line-index l.lines)) (judged_of l.self) end →
      AreJudged (bytes_of l.lines) (judged_of l.initial.self) end;
  list : l.self.run.list ≡ l.initial.self.run.list;
  works : g.E.Sink.has_failed l.sink ≡ false;
}
