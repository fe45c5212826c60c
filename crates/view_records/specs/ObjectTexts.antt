-- The object of a record whose cells are in the order of their names, member by member.
use Rattle.std.specs.Prelude.{ℕ, List, [], ◌∷◌, Bool, true, false, ◌&&◌, Option, Some, None}
use Rattle.std.specs.Option.{option_map_or}
use Rattle.std.specs.List.{list_all}
use Rattle.std.specs.Ordering.{match_ordering, nat_cmp}
use Rattle.std.specs.Cmp.Lexicographic.{slice_cmp}
use Rattle.serde_json.specs.Data.{Data, Members, member, no_members}
use Rattle.serde_json.specs.Written.{compact_text}
use Rattle.view_records.specs.JsonTexts.{value_of}
use Rattle.view_records.specs.Records.{CellData, Record}

-- a name comes after another one
abbrev pub is_after : List ℕ → List ℕ → Bool
is_after name other = match_ordering (slice_cmp nat_cmp name other) false false true

-- the name of each cell comes after those of the cells before it
abbrev pub names_ascend : Record → Bool
names_ascend [] = true
names_ascend (c ∷ cells) = list_all (λ other. is_after other.0 c.0) cells && names_ascend cells

-- a member, if it has a value, before others
abbrev pub member_if : List ℕ → Option Data → Members → Members
member_if name None members = members
member_if name (Some d) members = member name d members

-- the members of cells in their order
abbrev pub members_in_order : Record → Members
members_in_order [] = no_members
members_in_order (c ∷ cells) = member_if c.0 (value_of c.1) (members_in_order cells)

-- the text of a cell, if it is there
abbrev pub cell_text : CellData → List ℕ
cell_text cell = option_map_or compact_text (value_of cell) []
