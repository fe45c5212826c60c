-- What the members of a JSON object say.
use Rattle.std.specs.Prelude.{◌&&◌, ℕ, Bool, false, List, [], ◌∷◌, length, nat_le, is_some, if◌then◌else◌, Option, Some, None}
use Rattle.std.specs.Option.{option_and_then, option_map, unwrap_or}
use Rattle.serde_json.specs.Data.{Data, Items, no_items, item}
use Rattle.serde_json.specs.Find.{get, as_array, as_bool, as_number, as_object, as_str, as_u64}
use Rattle.own_model.specs.Text.{is_name}
use Rattle.trade_base.specs.Amount.{amount_of}

-- the elements of an array, one after another
abbrev pub elements : Items → List Data
elements no_items = []
elements (item d ds) = d ∷ elements ds

-- a list of at most 32 elements
abbrev pub at_most_32 : List Data → Option (List Data)
at_most_32 ds = if nat_le (length ds) 32 then Some ds else None

-- the list that a value is, if it is one of at most 32 elements
abbrev pub short_list : Data → Option (List Data)
short_list d = option_and_then at_most_32 (option_map elements (as_array d))

abbrev pub is_object : Data → Bool
is_object d = is_some (as_object d)

abbrev pub name_in : List ℕ → Option (List ℕ)
name_in text = if is_name text then Some text else None

-- the name that a value is, if it is a text of one
abbrev pub name_of : Data → Option (List ℕ)
name_of d = option_and_then name_in (as_str d)

-- the value is `true`
abbrev pub is_true : Data → Bool
is_true d = unwrap_or (as_bool d) false

-- the amount that a value is, if it is a text of one
abbrev pub amount_in : Data → Option ℕ
amount_in d = option_and_then amount_of (as_str d)

abbrev pub in_range : ℕ → ℕ → ℕ → Option ℕ
in_range low high n = if nat_le low n && nat_le n high then Some n else None

-- the whole number from `low` to `high` that a value is, if it is one
abbrev pub whole_in : ℕ → ℕ → Data → Option ℕ
whole_in low high d = option_and_then (in_range low high) (option_and_then as_u64 (as_number d))

-- ---- the members of an object: nothing if a member is missing or has another value, or without an object

abbrev pub text_at : List ℕ → Data → Option (List ℕ)
text_at key d = option_and_then as_str (get key d)

abbrev pub name_at : List ℕ → Data → Option (List ℕ)
name_at key d = option_and_then name_of (get key d)

abbrev pub amount_at : List ℕ → Data → Option ℕ
amount_at key d = option_and_then amount_in (get key d)

-- a whole number from `low` to `high`
abbrev pub whole_at : List ℕ → ℕ → ℕ → Data → Option ℕ
whole_at key low high d = option_and_then (whole_in low high) (get key d)

-- ---- members that may be missing

abbrev pub optional_text : Option Data → Option (Option (List ℕ))
optional_text None = Some None
optional_text (Some d) = option_map Some (as_str d)
