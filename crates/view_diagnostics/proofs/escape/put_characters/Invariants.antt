-- What is left is UTF-8, all before it is output, and no write failed yet.
use Rattle.std.proofs.Common.{◌≡◌, false}
use Rattle.std.specs.Str.{IsUtf8}
use Rattle.std.specs.Str.Iter.{chars_rest}
use Rattle.view_diagnostics.specs.Diagnostics.{shown_characters}
use Rattle.view_diagnostics.proofs.FrontLemmas.{OutputsFront}
use Rattle.view_diagnostics.proofs.escape.put_characters.Given as goal

abbrev pub invariant-loop-character : goal.invariant-loop-character
invariant-loop-character g l = record {
  utf8 : IsUtf8 (chars_rest l.character-iterator);
  front : OutputsFront (shown_characters l.form l.text) (shown_characters l.form (chars_rest l.character-iterator))
      (g.K.Sink.contents l.fn.sink) l.fn.gathered (g.K.Sink.contents l.sink) l.gathered;
  works : g.K.Sink.has_failed l.sink ≡ false;
}
