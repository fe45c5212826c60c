-- With what is left the line becomes what it has to.
use Rattle.std.proofs.Common.{◌≡◌, ◌-◌, ◌≤◌, drop, length}
use Rattle.own_model.specs.Reply.{hex_text}
use Rattle.line_friendly.specs.QuotedBytes.{bytes_from, bytes_of}
use Rattle.line_friendly.specs.LineText.{added}
use Rattle.line_friendly.proofs.quoted_bytes.put_text.Given as goal

abbrev pub invariant-loop-at : goal.invariant-loop-at
invariant-loop-at l = record {
  within : l.at ≤ length l.text;
  put : added l.initial.line (hex_text (bytes_of l.text)) ≡ added l.line (hex_text (bytes_from 0 (drop l.at l.text)));
}

abbrev pub decreases-loop-at : goal.decreases-loop-at
decreases-loop-at l = length l.text - l.at
