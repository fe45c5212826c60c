-- Which rows are known to have a small gap in front of them.
use Rattle.std.specs.Prelude.{◌≡◌, ◌≢◌, ℕ, zero, suc, ◌+◌, ◌*◌, ◌<◌, ◌≤◌, List, [], ◌∷◌, length, nat_le, if◌then◌else◌}
use Rattle.std.specs.List.{insert, remove}
use Rattle.region_map.specs.declared.row.RegionRow.{RegionRow}
use Rattle.region_map.specs.declared.known_rows.KnownRows.{KnownRows}
use Rattle.region_map.specs.RegionRows.{end_of, AreInOrder, IsTable}

-- the address after the row in front of an index, or the window's first
unfoldable pub end_before : ℕ → ℕ → List RegionRow → ℕ
end_before low zero rows = low
end_before low (suc at) [] = low
end_before low (suc at) (row ∷ rows) = end_before (end_of row) at rows

-- there is a row at an index, and fewer than so many pages lie between it and the row in front of it
abbrev pub IsCloseAt : ℕ → ℕ → ℕ → List RegionRow → Type 0
IsCloseAt low pages zero [] = ⊥
IsCloseAt low pages (suc at) [] = ⊥
IsCloseAt low pages zero (row ∷ rows) = row.start < low + pages * 4096
IsCloseAt low pages (suc at) (row ∷ rows) = IsCloseAt (end_of row) pages at rows

-- how many rows in front are so
unfoldable pub close_to : ℕ → ℕ → List RegionRow → ℕ
close_to low pages [] = 0
close_to low pages (row ∷ rows) = if nat_le (low + pages * 4096) row.start then 0 else suc (close_to (end_of row) pages rows)

-- the rows before an index are so, but one may be another
pub record AreKnown (low : ℕ) (known : KnownRows) (rows : List RegionRow) : Type 0 where
  pub within : known.until ≤ length rows
  pub close : (at : ℕ) → at < known.until → at ≢ known.count → IsCloseAt low known.pages at rows

-- rows that were known have one more at an index, which overlaps none
pub record IsInserted (low : ℕ) (known : KnownRows) (at : ℕ) (rows : List RegionRow) : Type 0 where
  pub old : List RegionRow
  pub row : RegionRow
  pub high : ℕ
  pub is : rows ≡ insert old at row
  pub there : at ≤ length old
  pub order : AreInOrder low high rows
  pub was : AreKnown low known old

-- rows that were known have one less, that at an index
pub record IsRemoved (low : ℕ) (known : KnownRows) (at : ℕ) (rows : List RegionRow) : Type 0 where
  pub old : List RegionRow
  pub is : rows ≡ remove old at
  pub there : at < length old
  pub was : AreKnown low known old

-- what is so of a table, of the room in it, and of what is known of its rows
pub record IsKept (low high : ℕ) (rows : List RegionRow) (room : ℕ) (single several : KnownRows) : Type 0 where
  pub table : IsTable low high rows
  pub one : single.pages ≤ 1
  pub single_known : AreKnown low single rows
  pub several_known : AreKnown low several rows
  pub few : room ≤ 4096
