-- The text, if the rest follows.
use Rattle.std.proofs.Common.{◌≡◌, drop}
use Rattle.budget_least.specs.MemberValues.{text_with}
use Rattle.budget_least.specs.ValueWriters.{text_before, values_of}
use Rattle.budget_least.proofs.member_values.with_values.Given as goal

abbrev pub invariant-loop-byte : goal.invariant-loop-byte
invariant-loop-byte l = record { values : l.writer.values.now ≡ l.values; text : text_before l.writer (drop l.byte-index l.text) ≡ text_with (values_of l.values) l.text }
