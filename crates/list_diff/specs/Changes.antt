-- The differences between the entries of two start lists.
use Rattle.std.specs.Prelude.{ℕ, ◌==◌, ◌&&◌, Bool, true, false, List, [], ◌∷◌, ◌++◌, length, position, if◌then◌else◌, Option, Some, None}
use Rattle.std.specs.List.{enumerate_from, flat_map, list_all, list_any, slice_index_or}
use Rattle.std.specs.Str.{bytes_eq}
use Rattle.own_model.specs.Amounts.{Amounts}
use Rattle.own_model.specs.Listed.{Binary, Listed, ListedEntry}
use Rattle.own_model.specs.Listed.Binary.{Script, Server, Init}
use Rattle.own_model.specs.ObjectKinds.{ObjectKind}
use Rattle.own_model.specs.Offer.{Offer}
use Rattle.own_model.specs.Offer.Offer.{OffersLog, OffersFiles, OffersObjects}
use Rattle.list_diff.specs.declared.entry_changes.EntryChange.{EntryChange}
use Rattle.list_diff.specs.declared.entry_changes.EntryChange.TheVariants.{Gone, Changed, Came}

-- two kinds have one name and the same sizes
abbrev pub same_kind : ObjectKind → ObjectKind → Bool
same_kind one other = bytes_eq one.name other.name && (one.block == other.block && one.bytes == other.bytes)

abbrev pub has_kind : List ObjectKind → ObjectKind → Bool
has_kind kinds kind = list_any (λ other. same_kind other kind) kinds

-- the same kinds in any order: no list has two kinds of one name
abbrev pub same_kinds : List ObjectKind → List ObjectKind → Bool
same_kinds one other = length one == length other && list_all (has_kind other) one

abbrev pub same_offer : Offer → Offer → Bool
same_offer OffersLog OffersLog = true
same_offer OffersFiles OffersFiles = true
same_offer (OffersObjects one) (OffersObjects other) = same_kinds one other
same_offer _ _ = false

-- servers are the same if they are of one service and offer the same
abbrev pub same_binary : Binary → Binary → Bool
same_binary Script Script = true
same_binary (Server service one) (Server server other) = bytes_eq service server && same_offer one other
same_binary Init Init = true
same_binary _ _ = false

abbrev pub same_flag : Bool → Bool → Bool
same_flag true other = other
same_flag false true = false
same_flag false false = true

abbrev pub same_reserves : Option Amounts → Option Amounts → Bool
same_reserves None None = true
same_reserves (Some one) (Some other) = one.ram == other.ram && one.caps == other.caps
same_reserves _ _ = false

-- two entries run the same binary, with the same budget
unfoldable pub same_means : ListedEntry → ListedEntry → Bool
same_means one other =
    same_binary one.binary other.binary
    && (one.ram == other.ram && (one.caps == other.caps
    && (same_flag one.provides other.provides && same_reserves one.reserve other.reserve)))

-- the place of a path in a list
abbrev pub place_of : Listed → List ℕ → Option ℕ
place_of list path = position (λ entry. bytes_eq entry.path path) list.entries

-- the change of an entry of this number, by its place in the list after
abbrev pub fate_at : Listed → ℕ × ListedEntry → Option ℕ → List EntryChange
fate_at after entry None = Gone entry.0 ∷ []
fate_at after entry (Some place) =
    if same_means entry.1 (slice_index_or after.entries place entry.1) then [] else Changed entry.0 place ∷ []

abbrev pub fate : Listed → ℕ × ListedEntry → List EntryChange
fate after entry = fate_at after entry (place_of after entry.1.path)

-- an added entry is denoted by its number
abbrev pub arrival_at : ℕ → Option ℕ → List EntryChange
arrival_at number None = Came number ∷ []
arrival_at number (Some place) = []

abbrev pub arrival : Listed → ℕ × ListedEntry → List EntryChange
arrival before entry = arrival_at entry.0 (place_of before entry.1.path)

-- the changes of all entries
abbrev pub changes_of : Listed → Listed → List EntryChange
changes_of before after =
    flat_map (fate after) (enumerate_from 0 before.entries) ++ flat_map (arrival before) (enumerate_from 0 after.entries)
