-- The parts of a call by their bytes.
use Rattle.std.specs.Prelude.{ℕ, ◌+◌, ◌≤◌, List, length, IfSome, Option, Some, None, Result, Ok, Err}
use Rattle.line_friendly.specs.Expected.{Written}
use Rattle.line_friendly.specs.CallParts.{CallParts, CallTail}
use Rattle.line_friendly.specs.CallParts.CallTail.{Words, Kept, Sized, Request, Quoted}
use Rattle.line_friendly.specs.declared.expected.Written.{Written as Ended}
use Rattle.line_friendly.specs.declared.quotes.QuoteMarks.{QuoteMarks}
use Rattle.line_friendly.specs.declared.call_parts.CallParts.{CallParts as Cut}
use Rattle.line_friendly.specs.declared.call_parts.CallTail.{CallTail as End}
use Rattle.line_friendly.specs.declared.call_parts.CallTail.TheVariants as tail

abbrev pub tail_in : End → CallTail
tail_in (tail.Words rest) = Words rest.now
tail_in (tail.Kept rest) = Kept rest.now
tail_in (tail.Sized rest) = Sized rest.now
tail_in (tail.Request rest) = Request rest.now
tail_in (tail.Quoted front inside left) = Quoted front.now inside.now left

abbrev pub parts_in : Cut → CallParts
parts_in parts = record { name = parts.name.now; form = parts.form.now; word = parts.word.now; tail = tail_in parts.tail }

-- a text in quotes lies within the last bytes of a call of this number of bytes
abbrev pub LiesIn : ℕ → CallTail → Type 0
LiesIn count (Words rest) = Unit {0}
LiesIn count (Kept rest) = Unit {0}
LiesIn count (Sized rest) = Unit {0}
LiesIn count (Request rest) = Unit {0}
LiesIn count (Quoted front inside left) = (left ≤ count) × (length inside ≤ left)

-- an arrow and a quote lie within a text of this number of bytes
pub record AreInside (marks : QuoteMarks) (count : ℕ) : Type 0 where
  pub arrow : IfSome marks.arrow (λ n. n + 4 ≤ count)
  pub quote : IfSome marks.quote (λ n. n + 1 ≤ count)

-- the text in quotes with which an expectation ends
abbrev pub written_view : Option Ended → Option Written
written_view None = None
written_view (Some written) = Some (record { front = written.front.now; inside = written.inside.now })
