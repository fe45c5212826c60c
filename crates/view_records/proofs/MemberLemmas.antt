-- The objects of records have no floating-point number.
use Rattle.std.proofs.Common.{◌≡◌, ℕ, ◌||◌, false, List, [], ◌∷◌, Ordering, Bor, Vec, Global, map, refl}
use Rattle.std.specs.Ordering.{match_ordering, nat_cmp}
use Rattle.std.specs.declared.cmp.Ordering.TheVariants.{Less, Equal, Greater}
use Rattle.std.specs.Cmp.Lexicographic.{slice_cmp}
use Rattle.std.proofs.lemmas.Bool.{or_parts}
use Rattle.serde_json.specs.Data.{Data, Members, no_members, member, put}
use Rattle.serde_json.specs.View.{items_of}
use Rattle.serde_json.specs.Written.{has_float, items_have_float, members_have_float}
use Rattle.view_records.specs.JsonTexts.{list_data, members_with, object_of, value_of, with_value}
use Rattle.view_records.specs.Lists.{records_of}
use Rattle.view_records.specs.Stored.{record_data, stored_data}
use Rattle.view_records.specs.declared.record_list.RecordList.{RecordList}
use Rattle.view_records.specs.declared.stored_cell.StoredCell.{StoredCell}
use Rattle.view_records.specs.declared.stored_cell.StoredCell.TheVariants as stored

-- members with one more that has none
put_whole : (k : List ℕ) (d : Data) (ms : Members) → has_float d ≡ false → members_have_float ms ≡ false → members_have_float (put k d ms) ≡ false
put_whole k d no_members one others = λ i. one i || false
put_whole k d (member l e ms) one others =
    let parts = or_parts (has_float e) (members_have_float ms) others in
    of (slice_cmp nat_cmp k l) parts.0 parts.1 (put_whole k d ms one parts.1)
  where
    of : (o : Ordering) → has_float e ≡ false → members_have_float ms ≡ false → members_have_float (put k d ms) ≡ false →
        members_have_float (match_ordering o (member k d (member l e ms)) (member l d ms) (member l e (put k d ms))) ≡ false
    of Less first rest more = λ i. one i || (first i || rest i)
    of Equal first rest more = λ i. one i || rest i
    of Greater first rest more = λ i. first i || more i

-- members with that of a cell
cell_whole : (k : List ℕ) (cell : StoredCell) (ms : Members) → members_have_float ms ≡ false → members_have_float (with_value k (value_of (stored_data cell)) ms) ≡ false
cell_whole k stored.Absent ms whole = whole
cell_whole k stored.Null ms whole = put_whole k _ ms refl whole
cell_whole k (stored.Text t) ms whole = put_whole k _ ms refl whole
cell_whole k (stored.Number n) ms whole = put_whole k _ ms refl whole
cell_whole k (stored.List nested) ms whole = put_whole k _ ms nested.whole whole

-- members with those of cells
cells_whole : (cells : List (Bor (List ℕ) × StoredCell)) (ms : Members) → members_have_float ms ≡ false → members_have_float (members_with ms (record_data cells)) ≡ false
cells_whole [] ms whole = whole
cells_whole (c ∷ cells) ms whole = cells_whole cells _ (cell_whole c.0.now c.1 ms whole)

pub object_whole : (cells : List (Bor (List ℕ) × StoredCell)) → has_float (object_of (record_data cells)) ≡ false
object_whole cells = cells_whole cells no_members refl

pub list_whole : (records : RecordList) → has_float (list_data (records_of records)) ≡ false
list_whole records = all records.records.items
  where
    all : (rows : List (Vec (Bor (List ℕ) × StoredCell) Global)) → items_have_float (items_of (map object_of (map (λ cells. record_data cells.items) rows))) ≡ false
    all [] = refl
    all (row ∷ rows) = λ i. object_whole row.items i || all rows i
