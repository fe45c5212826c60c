-- Changes of entries as records.
use Rattle.std.specs.Prelude.{ℕ, List, [], ◌∷◌, codes, Option, Some, None}
use Rattle.std.specs.List.{slice_get}
use Rattle.std.specs.Option.{option_and_then, option_map}
use Rattle.serde_json.specs.Data.{Data}
use Rattle.own_model.specs.Amounts.{Amounts}
use Rattle.own_model.specs.Listed.{Listed, ListedEntry}
use Rattle.list_parts.specs.Kinds.{binary_word, kinds_data, provided_cell}
use Rattle.view_records.specs.Cells.{cell_data}
use Rattle.view_records.specs.Records.{CellData, Record, absent, if_list, if_number, if_text, number, text}
use Rattle.list_diff.specs.declared.entry_changes.EntryChange.{EntryChange}
use Rattle.list_diff.specs.declared.entry_changes.EntryChange.TheVariants.{Gone, Changed, Came}
use Rattle.list_diff.specs.declared.entry_records.EntryCells.{EntryCells}

-- the cells of an entry
pub record EntryData : Type 0 where
  pub binary : CellData
  pub ram : CellData
  pub caps : CellData
  pub reserve_ram : CellData
  pub reserve_caps : CellData
  pub provides : CellData
  pub kinds : CellData

abbrev pub data_in : EntryCells → EntryData
data_in cells = record {
  binary = cell_data cells.binary;
  ram = cell_data cells.ram;
  caps = cell_data cells.caps;
  reserve_ram = cell_data cells.reserve_ram;
  reserve_caps = cell_data cells.reserve_caps;
  provides = cell_data cells.provides;
  kinds = cell_data cells.kinds;
}

-- of an entry that is on a list, and of one that isn't
abbrev pub entry_data : Option ListedEntry → EntryData
entry_data None = record {
  binary = absent;
  ram = absent;
  caps = absent;
  reserve_ram = absent;
  reserve_caps = absent;
  provides = absent;
  kinds = absent;
}
entry_data (Some entry) = record {
  binary = text (binary_word entry.binary);
  ram = number entry.ram;
  caps = number entry.caps;
  reserve_ram = if_number (option_map (λ (left : Amounts). left.ram) entry.reserve);
  reserve_caps = if_number (option_map (λ (left : Amounts). left.caps) entry.reserve);
  provides = provided_cell entry;
  kinds = if_list (kinds_data entry.binary);
}

abbrev pub kinds_by : Option ListedEntry → Option Data
kinds_by entry = option_and_then (λ (e : ListedEntry). kinds_data e.binary) entry

-- the entry after, or else the one before
abbrev pub some_entry : Option ListedEntry → Option ListedEntry → Option ListedEntry
some_entry was (Some now) = Some now
some_entry was None = was

-- an entry with its cells before and after
abbrev pub record_by : List ℕ → CellData → EntryData → EntryData → Record
record_by sign name was now =
    (codes "kind", text (codes "entry")) ∷ (codes "change", text sign) ∷ (codes "name", name)
    ∷ (codes "was_binary", was.binary) ∷ (codes "was_ram", was.ram) ∷ (codes "was_caps", was.caps)
    ∷ (codes "was_reserve_ram", was.reserve_ram) ∷ (codes "was_reserve_caps", was.reserve_caps)
    ∷ (codes "was_provides", was.provides) ∷ (codes "was_kinds", was.kinds)
    ∷ (codes "binary", now.binary) ∷ (codes "ram", now.ram) ∷ (codes "caps", now.caps)
    ∷ (codes "reserve_ram", now.reserve_ram) ∷ (codes "reserve_caps", now.reserve_caps)
    ∷ (codes "provides", now.provides) ∷ (codes "kinds", now.kinds) ∷ []

-- an entry as it was and as it is
abbrev pub entry_record : List ℕ → Option ListedEntry → Option ListedEntry → Record
entry_record sign was now =
    record_by sign (if_text (option_map (λ (entry : ListedEntry). entry.path) (some_entry was now))) (entry_data was) (entry_data now)

abbrev pub change_record : Listed → Listed → EntryChange → Record
change_record before after (Gone place) = entry_record (codes "-") (slice_get before.entries place) None
change_record before after (Came place) = entry_record (codes "+") None (slice_get after.entries place)
change_record before after (Changed was now) = entry_record (codes "~") (slice_get before.entries was) (slice_get after.entries now)
