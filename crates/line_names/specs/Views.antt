-- What contracts see of pieces, lines and directives, by their bytes.
use Rattle.std.specs.Prelude.{ℕ, List, map, Option, Some, None, Result, Ok, Err}
use Rattle.std.specs.Option.{option_copied}
use Rattle.line_names.specs.Directives.{Directive}
use Rattle.line_names.specs.Directives.Directive.{Set, Repeat, End, Unknown}
use Rattle.line_names.specs.Filling.{FilledLine, BoundName, Made, Piece, BindingZone}
use Rattle.line_names.specs.NameTable.{Binding}
use Rattle.line_names.specs.Names.{DollarToken}
use Rattle.line_names.specs.Names.DollarToken.{Alone, Doubled, Named, Broken}
use Rattle.line_names.specs.declared.directives.NameValue.{NameValue}
use Rattle.line_names.specs.declared.directives.Directive.{Directive as Told}
use Rattle.line_names.specs.declared.directives.Directive.TheVariants as told
use Rattle.line_names.specs.declared.fault.NameFault.{NameFault}
use Rattle.line_names.specs.declared.fault.NameReason.{NameReason}
use Rattle.line_names.specs.declared.filling.FilledLine.{FilledLine as Line}
use Rattle.line_names.specs.declared.bound_names.BoundName.{BoundName as Star}
use Rattle.line_names.specs.declared.bound_names.BindingZone.{BindingZone as Place}
use Rattle.line_names.specs.declared.names.DollarToken.{DollarToken as Mark}
use Rattle.line_names.specs.declared.names.DollarToken.TheVariants as sign
use Rattle.line_names.specs.declared.pieces.Piece.{Piece as Part}
use Rattle.line_names.specs.declared.pieces.PieceText.{PieceText}
use Rattle.line_names.specs.declared.pieces.PieceText.TheVariants as text
use Rattle.line_names.specs.declared.sums.Total.{Total}

abbrev pub binding_view : NameValue → Binding
binding_view binding = record { name = binding.name.now; value = binding.value.now }

abbrev pub binding_seen : Option NameValue → Option Binding
binding_seen None = None
binding_seen (Some binding) = Some (binding_view binding)

abbrev pub directive_view : Told → Directive
directive_view (told.Set binding) = Set (binding_view binding)
directive_view told.Repeat = Repeat
directive_view told.End = End
directive_view told.Unknown = Unknown

abbrev pub directive_seen : Option Told → Option Directive
directive_seen None = None
directive_seen (Some directive) = Some (directive_view directive)

abbrev pub sign_view : Mark → DollarToken
sign_view sign.Alone = Alone
sign_view sign.Doubled = Doubled
sign_view (sign.Named name size) = Named name.now size
sign_view sign.Broken = Broken

abbrev pub text_view : PieceText → List ℕ
text_view (text.Slice bytes) = bytes.now
text_view (text.Digits digits) = digits.items

abbrev pub text_seen : Result PieceText NameReason → Result (List ℕ) NameReason
text_seen (Ok made) = Ok (text_view made)
text_seen (Err reason) = Err reason

abbrev pub piece_view : Part → Piece
piece_view part = record { text = text_view part.text; size = part.size; hole = option_copied part.hole }

abbrev pub piece_seen : Result Part NameReason → Result Piece NameReason
piece_seen (Ok part) = Ok (piece_view part)
piece_seen (Err reason) = Err reason

abbrev pub hole_view : Star → BoundName
hole_view star = record { name = star.name.now; place = star.place }

abbrev pub made_view : Option (List ℕ) → List Star → Made
made_view line holes = record { line = line; holes = map hole_view holes }

abbrev pub filled_view : Line → FilledLine
filled_view line = record {
  line = line.line.now;
  expected = line.expected.now;
  holes = map hole_view line.holes.items;
}

abbrev pub filled_seen : Result Line NameFault → Result FilledLine NameFault
filled_seen (Ok line) = Ok (filled_view line)
filled_seen (Err fault) = Err fault

abbrev pub total_count : Result Total NameReason → Result ℕ NameReason
total_count (Ok total) = Ok total.count
total_count (Err reason) = Err reason

abbrev pub value_seen : Result (PieceText × ℕ) NameReason → Result (List ℕ) NameReason
value_seen (Ok made) = Ok (text_view made.0)
value_seen (Err reason) = Err reason

-- a filled text: what was made, or why it wasn't
abbrev pub made_seen : Result Unit NameFault → Option (List ℕ) → List Star → Result Made NameFault
made_seen (Ok done) line holes = Ok (made_view line holes)
made_seen (Err fault) line holes = Err fault

abbrev pub holes_seen : Result Unit NameReason → List Star → Result (List BoundName) NameReason
holes_seen (Ok done) holes = Ok (map hole_view holes)
holes_seen (Err reason) holes = Err reason

abbrev pub zone_view : Place → BindingZone
zone_view zone = record { limit = zone.limit; start = zone.start }

abbrev pub done_seen : Result Unit NameReason → Option (List ℕ) → List Star → Result Made NameReason
done_seen (Ok done) line holes = Ok (made_view line holes)
done_seen (Err reason) line holes = Err reason

abbrev pub step_seen : Result ℕ NameReason → Option (List ℕ) → List Star → Result Made NameReason
step_seen (Ok size) line holes = Ok (made_view line holes)
step_seen (Err reason) line holes = Err reason
