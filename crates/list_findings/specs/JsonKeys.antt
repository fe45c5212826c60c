-- The keys of a JSON value.
use Rattle.std.specs.Prelude.{ℕ, Bool, List, [], ◌∷◌, ◌++◌}
use Rattle.std.specs.List.{list_any}
use Rattle.std.specs.Str.{bytes_eq}
use Rattle.json.specs.Json.{Json, null, boolean, number, string, array, object, Items, no_items, item, Members, no_members, member}
use Rattle.list_findings.specs.declared.json_keys.JsonKey.{JsonKey as SeenKey}

-- a key, and whether an earlier member of its object has it, too
pub record JsonKey : Type 0 where
  pub name : List ℕ
  pub again : Bool

abbrev pub key_behind : List (List ℕ) → List ℕ → JsonKey
key_behind before name = record { name = name; again = list_any (bytes_eq name) before }

-- all keys of a value, in the order of its text
abbrev mutual
  pub keys_of : Json → List JsonKey
  keys_of null = []
  keys_of (boolean b) = []
  keys_of (number s) = []
  keys_of (string s) = []
  keys_of (array js) = keys_in js
  keys_of (object ms) = keys_behind [] ms

  pub keys_in : Items → List JsonKey
  keys_in no_items = []
  keys_in (item j js) = keys_of j ++ keys_in js

  -- the keys of the members of an object, after these names of earlier ones
  pub keys_behind : List (List ℕ) → Members → List JsonKey
  keys_behind before no_members = []
  keys_behind before (member name j ms) = key_behind before name ∷ (keys_of j ++ keys_behind (before ++ name ∷ []) ms)

-- ---- what the code's type denotes

abbrev pub seen : SeenKey → JsonKey
seen key = record { name = key.name.now; again = key.again }
