-- Members of one object of a start list's text that have one name.
use Rattle.std.specs.Prelude.{ℕ, List, [], ◌∷◌, flat_map, if◌then◌else◌, Option, None}
use Rattle.std.specs.List.{enumerate_from, slice_get}
use Rattle.std.specs.Option.{option_map, unwrap_or}
use Rattle.std.specs.Str.{is_utf8}
use Rattle.json.specs.Json.{Json, document}
use Rattle.list_findings.specs.JsonKeys.{JsonKey, keys_of}
use Rattle.list_findings.specs.KeyPlaces.{first, key_places}
use Rattle.list_findings.specs.declared.finding.Finding.{Finding}
use Rattle.list_findings.specs.declared.finding.Remark.TheVariants.{GivenTwice}
use Rattle.list_findings.specs.declared.key_places.KeyPlace.{KeyPlace}
use Rattle.list_parts.specs.declared.list_part.ListPart.TheVariants as parts

-- a member whose name an earlier one of its object has, too, at the place at which it begins
abbrev pub given_twice : KeyPlace → List ℕ → Finding
given_twice place name = record { part = parts.Text place.line place.column; remark = GivenTwice name }

-- the duplicate of a key, by its number, if it is one
abbrev pub repeat_of : List KeyPlace → ℕ × JsonKey → List Finding
repeat_of places key = if key.1.again then given_twice (unwrap_or (slice_get places key.0) first) key.1.name ∷ [] else []

abbrev pub repeats_of : List ℕ → Json → List Finding
repeats_of text value = flat_map (repeat_of (key_places text)) (enumerate_from 0 (keys_of value))

-- the value of a text, if it is UTF-8 and JSON
abbrev pub value_in : List ℕ → Option Json
value_in text = if is_utf8 text then document text else None

-- all duplicates of a text, in its order; a text that is no JSON has none
abbrev pub repeated_in : List ℕ → List Finding
repeated_in text = unwrap_or (option_map (repeats_of text) (value_in text)) []
