-- So many bytes of the line are passed, and bytes are ahead; once some are passed, a read has flushed what was gathered.
use Rattle.std.proofs.Common.{◌≡◌, ◌+◌, ◌-◌, ◌<◌, ◌≤◌, [], false, length}
use Rattle.run_devices.specs.RunOutput.{Tells}
use Rattle.run_devices.specs.Lines.{longest_read, to_come}
use Rattle.run_lines.specs.Reach.{ReadsBehind, longest_ahead}
use Rattle.run_lines.proofs.ToCome.{Passes}
use Rattle.run_lines.proofs.lines.Buffers.pass_long_line.Given as goal

abbrev pub invariant-loop-passed : goal.invariant-loop-passed
invariant-loop-passed g l = record {
  come : Passes (to_come l.initial.self.ahead (g.S.Source.remaining l.initial.source)) (to_come l.self.ahead (g.S.Source.remaining l.source)) l.passed;
  some : 0 < length l.self.ahead;
  bounded : l.passed ≤ longest_read;
  told : Tells (g.K.Sink.contents l.initial.sink) l.initial.self.gathered (g.K.Sink.contents l.sink) l.self.gathered [];
  flushed : 0 < l.passed → l.self.gathered ≡ [];
  behind : ReadsBehind (λ _. longest_ahead + l.passed) (to_come l.initial.self.ahead (g.S.Source.remaining l.initial.source)) l.initial.self.gathered
      (g.K.Sink.contents l.initial.sink) (g.S.Source.remaining l.initial.source) (g.K.Sink.contents l.sink) (g.S.Source.remaining l.source);
  reads : g.S.Source.has_failed l.source ≡ false;
  writes : g.K.Sink.has_failed l.sink ≡ false;
}

abbrev pub decreases-loop-passed : goal.decreases-loop-passed
decreases-loop-passed g l = longest_read + 1 - l.passed
