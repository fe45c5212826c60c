-- Bytes without a newline are ahead, and nothing was passed.
use Rattle.std.proofs.Common.{◌≡◌, ◌-◌, ◌≤◌, [], false, length}
use Rattle.run_devices.specs.RunOutput.{Tells}
use Rattle.run_devices.specs.Lines.{line_length, to_come}
use Rattle.run_lines.specs.Reach.{ReadsBehind, longest_ahead}
use Rattle.run_lines.proofs.ToCome.{Passes}
use Rattle.run_lines.proofs.lines.Buffers.next_line.Given as goal

abbrev pub invariant-loop-seen : goal.invariant-loop-seen
invariant-loop-seen g l = record {
  seen : l.seen ≤ line_length l.self.ahead;
  come : Passes (to_come l.initial.self.ahead (g.S.Source.remaining l.initial.source)) (to_come l.self.ahead (g.S.Source.remaining l.source)) 0;
  told : Tells (g.K.Sink.contents l.initial.sink) l.initial.self.gathered (g.K.Sink.contents l.sink) l.self.gathered [];
  behind : ReadsBehind (λ _. longest_ahead) (to_come l.initial.self.ahead (g.S.Source.remaining l.initial.source)) l.initial.self.gathered
      (g.K.Sink.contents l.initial.sink) (g.S.Source.remaining l.initial.source) (g.K.Sink.contents l.sink) (g.S.Source.remaining l.source);
  reads : g.S.Source.has_failed l.source ≡ false;
  writes : g.K.Sink.has_failed l.sink ≡ false;
}

abbrev pub decreases-loop-seen : goal.decreases-loop-seen
decreases-loop-seen g l = 8193 - length l.self.ahead
