-- The rows of a table: regions in the order of their starts.
use Rattle.std.specs.Prelude.{◌≡◌, ℕ, suc, ◌+◌, ◌*◌, ◌%◌, ◌^◌, ◌≤◌, List, [], ◌∷◌, Option, None, Some, map, nat_le, if◌then◌else◌}
use Rattle.std.specs.FinMap.{from_entries}
use Rattle.std.specs.Option.{option_or}
use Rattle.own_model.specs.NatMap.{NatMap}
use Rattle.own_model.specs.Region.{Region}
use Rattle.region_map.specs.declared.row.RegionRow.{RegionRow}

-- a row's region
abbrev pub region_of : RegionRow → Region
region_of row = record { of = row.ds.0; pages = row.pages }

-- the number kept with a row's region
abbrev pub tag_of : RegionRow → ℕ
tag_of row = row.tag

-- the address after a row's region
abbrev pub end_of : RegionRow → ℕ
end_of row = row.start + row.pages * 4096

-- what f returns for each row, by the rows' starts
unfoldable pub map_of : {X : Type 0} → (RegionRow → X) → List RegionRow → NatMap X
map_of f rows = from_entries (map (λ row. (row.start, f row)) rows)

-- from one address on the regions lie one after another, and end no later than another address
abbrev pub AreInOrder : ℕ → ℕ → List RegionRow → Type 0
AreInOrder low high [] = low ≤ high
AreInOrder low high (row ∷ rows) = (low ≤ row.start) × AreInOrder (end_of row) high rows

-- how many rows in front start at an address or before
unfoldable pub count_to : ℕ → List RegionRow → ℕ
count_to address [] = 0
count_to address (row ∷ rows) = if nat_le row.start address then suc (count_to address rows) else 0

-- the last of these
unfoldable pub last_to : ℕ → List RegionRow → Option RegionRow
last_to address [] = None
last_to address (row ∷ rows) = if nat_le row.start address then option_or (last_to address rows) (Some row) else None

-- the lowest address, from one on and before another, at which so many pages lie between the rows
unfoldable pub gap_from : ℕ → ℕ → List RegionRow → ℕ → Option ℕ
gap_from low high [] pages = if nat_le (low + pages * 4096) high then Some low else None
gap_from low high (row ∷ rows) pages =
    if nat_le (low + pages * 4096) row.start then Some low else gap_from (end_of row) high rows pages

-- what is so of a table: its window starts at a multiple of a page and is none too large, and the rows are in order in it
pub record IsTable (low high : ℕ) (rows : List RegionRow) : Type 0 where
  pub aligned : low % 4096 ≡ 0
  pub small : high ≤ 2 ^ 40
  pub in_order : AreInOrder low high rows
