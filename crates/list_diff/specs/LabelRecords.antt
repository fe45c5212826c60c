-- Sets of labels as records.
use Rattle.std.specs.Prelude.{ℕ, List, [], ◌∷◌, codes, map}
use Rattle.list_labels.specs.declared.pattern.LabelSet.{LabelSet}
use Rattle.list_labels.specs.declared.pattern.Pattern.{Pattern}
use Rattle.list_labels.specs.declared.pattern.Pattern.TheVariants.{Exactly, Between}
use Rattle.list_labels.specs.declared.pattern.Shape.{Shape}
use Rattle.view_records.specs.JsonTexts.{list_data}
use Rattle.view_records.specs.Records.{CellData, Record, absent, list, null, text}

-- a text that excludes no label is null
abbrev pub part_cell : List ℕ → CellData
part_cell [] = null
part_cell (b ∷ t) = text (b ∷ t)

-- a pattern with its exceptions
abbrev pub pattern_record : Pattern → CellData → Record
pattern_record (Exactly label) except =
    (codes "exactly", text label) ∷ (codes "beginning", null) ∷ (codes "ending", null) ∷ (codes "except", except) ∷ []
pattern_record (Between front end) except =
    (codes "exactly", null) ∷ (codes "beginning", part_cell front) ∷ (codes "ending", part_cell end) ∷ (codes "except", except) ∷ []

abbrev pub plain_record : Pattern → Record
plain_record pattern = pattern_record pattern absent

-- the pattern of a shape, and those whose labels aren't of the shape
abbrev pub shape_record : Shape → Record
shape_record shape = pattern_record shape.pattern (list (list_data (map plain_record shape.except.items)))

abbrev pub label_records : LabelSet → List Record
label_records labels = map shape_record labels.shapes.items
