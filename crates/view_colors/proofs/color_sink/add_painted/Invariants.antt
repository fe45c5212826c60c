-- What is left of the bytes is still to be written.
use Rattle.std.proofs.Common.{◌≡◌, ◌++◌, drop}
use Rattle.view_colors.specs.ColorSink.{left_of, painted_lines}
use Rattle.view_colors.proofs.color_sink.add_painted.Given as goal

abbrev pub invariant-loop-byte : goal.invariant-loop-byte
invariant-loop-byte l = record {
  text : l.initial.text.items ++ painted_lines l.lines l.initial.line.items l.bytes
      ≡ l.text.items ++ painted_lines l.lines l.line.items (drop l.byte-index l.bytes);
  left : left_of l.initial.line.items l.bytes ≡ left_of l.line.items (drop l.byte-index l.bytes);
}
