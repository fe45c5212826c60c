-- The digits that are left are those of what is left of the text.
use Rattle.std.proofs.Common.{◌≡◌, ◌-◌, ◌≤◌, drop, length}
use Rattle.std.specs.Str.{bytes_eq}
use Rattle.own_model.specs.Reply.{hex_text}
use Rattle.line_friendly.specs.QuotedBytes.{bytes_from, bytes_of}
use Rattle.line_friendly.proofs.quoted_bytes.is_hex_of.Given as goal

abbrev pub invariant-loop-at : goal.invariant-loop-at
invariant-loop-at l = record {
  within : l.at ≤ length l.text;
  digits : bytes_eq l.digits (hex_text (bytes_of l.text)) ≡ bytes_eq l.left (hex_text (bytes_from 0 (drop l.at l.text)));
}

abbrev pub decreases-loop-at : goal.decreases-loop-at
decreases-loop-at l = length l.text - l.at
