-- Records as JSON.
use Rattle.std.specs.Prelude.{ℕ, List, [], ◌∷◌, ◌++◌, codes, map, Option, Some, None}
use Rattle.std.specs.Str.Lossy.{utf8_lossy}
use Rattle.serde_json.specs.Data.{Data, Members, array, no_members, object, put, string, unsigned}
use Rattle.serde_json.specs.Data as json
use Rattle.serde_json.specs.View.{items_of}
use Rattle.serde_json.specs.Written.{compact_text}
use Rattle.view_records.specs.Records.{CellData, Record, absent, null, text, number, list}

-- the value of a cell, if it is there; bytes that are no text are replaced
abbrev pub value_of : CellData → Option Data
value_of absent = None
value_of null = Some json.null
value_of (text t) = Some (string (utf8_lossy t))
value_of (number n) = Some (json.number (unsigned n))
value_of (list d) = Some d

-- members with one more, if it is there
abbrev pub with_value : List ℕ → Option Data → Members → Members
with_value name None members = members
with_value name (Some d) members = put name d members

-- members with those of more cells, in the order of names; the last value of a name is its value
abbrev pub members_with : Members → Record → Members
members_with members [] = members
members_with members (c ∷ cells) = members_with (with_value c.0 (value_of c.1) members) cells

-- the object of a record, and the array of records
abbrev pub object_of : Record → Data
object_of cells = object (members_with no_members cells)

abbrev pub list_data : List Record → Data
list_data records = array (items_of (map object_of records))

-- the texts of objects, this text before the first, a comma and a new line before the others, and the end
abbrev pub objects_text : List ℕ → List Record → List ℕ
objects_text before [] = codes "]\n"
objects_text before (r ∷ records) = before ++ (compact_text (object_of r) ++ objects_text (codes ",\n") records)

abbrev pub json_text : List Record → List ℕ
json_text records = codes "[" ++ objects_text [] records
