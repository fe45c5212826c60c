-- As many lines are played as were counted, as many more can be as are allowed, and no device failed yet.
use Rattle.std.proofs.Common.{◌≡◌, ◌+◌, ℕ, List, length}
use Rattle.run_lines.specs.Next.{AllWork}
use Rattle.run_lines.specs.LineRuns.{point}
use Rattle.run_lines.proofs.PlayLemmas.{Plays}
use Rattle.run_lines.proofs.line_run.play.Given as goal

abbrev pub invariant-loop-count : goal.invariant-loop-count
invariant-loop-count g l = record {
  ready : (more : ℕ) → more + l.count ≡ l.fn.max_lines → g.P.LineHandler.is_ready l.player l.core more;
  works : AllWork (g.S.Source.has_failed l.reader) (g.K.Sink.has_failed l.writer) (g.P.LineHandler.has_failed l.player);
  played : (lines : List (List ℕ)) × (length lines ≡ l.count) × g.P.LineHandler.leads l.fn.player l.fn.core l.player l.core lines
      × Plays (g.P.LineHandler.told l.fn.player l.fn.core) lines
      (point l.fn.buffers (g.S.Source.remaining l.fn.reader) (g.K.Sink.contents l.fn.writer))
      (point l.buffers (g.S.Source.remaining l.reader) (g.K.Sink.contents l.writer));
}
