-- The index of paths: the places from which paths are searched for.
use Rattle.std.specs.Prelude.{◌≡◌, ℕ, ◌+◌, ◌-◌, ◌*◌, ◌/◌, ◌%◌, ◌<◌, ◌≤◌, List, length, get_or, nat_lt, if◌then◌else◌, Some}
use Rattle.std.specs.List.{slice_get}
use Rattle.std.specs.Option.{option_map}
use Rattle.own_model.specs.Listed.{ListedEntry}

-- four bytes from a place on, as one number
abbrev pub four_at : List ℕ → ℕ → ℕ
four_at path n = get_or path n 0 + get_or path (n + 1) 0 * 256 + get_or path (n + 2) 0 * 65536 + get_or path (n + 3) 0 * 16777216

-- bytes at the front, in the middle and at the end of a path, as one number: for at most 12 bytes it has all of them
abbrev pub parts_of : List ℕ → ℕ
parts_of path =
    if nat_lt (length path) 4
    then get_or path 0 0 + get_or path (length path / 2) 0 * 3 + get_or path (length path - 1) 0 * 5
    else four_at path 0 + four_at path ((length path - 3) / 2) * 3 + four_at path (length path - 4) * 5

-- the kind of a path: few others of a list have the same
abbrev pub kind_of : List ℕ → ℕ
kind_of path = parts_of path * 165902235 / 16777216 % 1024

-- no path of a kind is before this place
abbrev pub NoneSooner : List ℕ → List ListedEntry → Type 0
NoneSooner firsts entries = (place : ℕ) (entry : ListedEntry) → slice_get entries place ≡ Some entry →
    get_or firsts (kind_of entry.path) 0 ≤ place

-- a path of the kind is there, if that is a place: there are at most 32
abbrev pub StandThere : List ℕ → List ListedEntry → Type 0
StandThere firsts entries = (kind : ℕ) → get_or firsts kind 32 < 32 →
    option_map (λ entry. kind_of entry.path) (slice_get entries (get_or firsts kind 32)) ≡ Some kind

-- each kind has the place of its first path
pub record AreFirst (firsts : List ℕ) (entries : List ListedEntry) : Type 0 where
  pub sooner : NoneSooner firsts entries
  pub there : StandThere firsts entries
