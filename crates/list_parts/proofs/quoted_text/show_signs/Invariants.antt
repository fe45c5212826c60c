-- The characters so far, and those that are left, which are UTF-8.
use Rattle.std.proofs.Common.{◌≡◌, ℕ, List, ◌++◌}
use Rattle.std.specs.Fmt.{HasWritten, IsPlainFormatter}
use Rattle.std.specs.Str.{IsUtf8}
use Rattle.std.specs.Str.Iter.{chars_rest}
use Rattle.list_parts.specs.QuotedTexts.{escaped_text}
use Rattle.list_parts.proofs.quoted_text.show_signs.Given as goal

abbrev pub invariant-loop-sign : goal.invariant-loop-sign
invariant-loop-sign g l = record {
  utf8 : IsUtf8 (chars_rest l.sign-iterator);
  writes : IsPlainFormatter l.fn.f → (shown : List ℕ) × HasWritten g.W.Write.write_str_gives l.fn.f shown l.f
      × (shown ++ escaped_text l.in_graph (chars_rest l.sign-iterator) ≡ escaped_text l.in_graph l.text);
}
