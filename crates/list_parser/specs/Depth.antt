-- The depth of lists, the length of the paths and labels of their entries, and the lists to which entries belong.
use Rattle.std.specs.Prelude.{◌≡◌, ℕ, ◌-◌, ◌*◌, ◌<◌, ◌≤◌, zero, suc, Bool, true, false, List, length, Some, Ok}
use Rattle.std.specs.List.{slice_get}
use Rattle.std.specs.Option.{option_map, unwrap_or}
use Rattle.own_model.specs.Listed.{Binary, ListedEntry}
use Rattle.own_model.specs.Listed.Binary.{Script, Server, Init}
use Rattle.list_parser.specs.Entries.{ListPlace, Reads, read_within}

-- a list with room for the names of n lists within, each with a separator: the machine's list, with three within, has no
-- path
pub record IsWithin (deeper : ℕ) (place : ListPlace) : Type 0 where
  pub deep : deeper ≤ 3
  pub path : length place.path ≤ 98 - 33 * deeper
  pub label : length place.label ≤ 104 - 36 * deeper

-- ---- what binaries run

abbrev pub runs_script : Binary → Bool
runs_script Script = true
runs_script (Server service offer) = false
runs_script Init = false

abbrev pub runs_server : Binary → Bool
runs_server Script = false
runs_server (Server service offer) = true
runs_server Init = false

-- ---- inits

abbrev pub runs_init : Binary → Bool
runs_init Script = false
runs_init (Server service offer) = false
runs_init Init = true

abbrev pub is_init : ListedEntry → Bool
is_init entry = runs_init entry.binary

-- a number is the machine's init's, or that of an entry which is one
abbrev pub is_list : List ListedEntry → ℕ → Bool
is_list entries zero = true
is_list entries (suc place) = unwrap_or (option_map is_init (slice_get entries place)) false

-- an entry at a place is of the machine's list, or of that of an init before it
pub record IsParentInit (entries : List ListedEntry) (place home : ℕ) : Type 0 where
  pub before : home ≤ place
  pub list : is_list entries home ≡ true

-- each entry is
abbrev pub HaveParentInits : List ListedEntry → Type 0
HaveParentInits entries = (place : ℕ) (entry : ListedEntry) → slice_get entries place ≡ Some entry → IsParentInit entries place entry.home

-- an entry that starts others, in a list with n lists within: it is an init, whose list has room for the rest
pub record Starts (deeper : ℕ) (entry : ListedEntry) : Type 0 where
  pub some : 0 < deeper
  pub init : is_init entry ≡ true
  pub path : length entry.path ≤ 98 - 33 * (deeper - 1)
  pub label : length entry.label ≤ 104 - 36 * (deeper - 1)

-- the list that the entry starts has room too
pub record IsBelow (deeper : ℕ) (entries : List ListedEntry) (place : ListPlace) : Type 0 where
  pub some : 0 < deeper
  pub within : IsWithin (deeper - 1) place
  pub list : is_list entries place.init ≡ true

-- how the entries of an init of the list are read
abbrev pub reads_below : ℕ → Reads
reads_below zero place so_far d = Ok so_far
reads_below (suc deeper) place so_far d = read_within deeper place so_far d

-- entries with more after them: each has a parent init, and each list is still there
pub record Grow (old new : List ListedEntry) : Type 0 where
  pub homes : HaveParentInits new
  pub lists : (home : ℕ) → is_list old home ≡ true → is_list new home ≡ true
