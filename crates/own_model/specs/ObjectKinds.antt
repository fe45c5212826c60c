-- The kinds of objects that a declared server offers.
use Rattle.std.specs.Prelude.{◌≡◌, ℕ, ◌≤◌, true, Bool, List, [], ◌∷◌, length, find, Option, None}
use Rattle.std.specs.List.{AllByRecursion}
use Rattle.std.specs.Str.{bytes_eq}
use Rattle.own_model.specs.Text.{is_name}

-- a kind: its name, the bytes for which each object's block is asked, and the bytes of contents that a unit has
pub record ObjectKind : Type 0 where
  pub name : List ℕ
  pub block : ℕ
  pub bytes : ℕ

abbrev pub is_kind : List ℕ → ObjectKind → Bool
is_kind name kind = bytes_eq kind.name name

-- the kind of a name, if there is one
abbrev pub kind_named : List ℕ → List ObjectKind → Option ObjectKind
kind_named name kinds = find (is_kind name) kinds

-- ---- what a list can declare

-- the most kinds of a server
abbrev pub most_kinds : ℕ
most_kinds = 16

-- a block is asked for at least the bytes of a node, and is none of the large ones
abbrev pub least_node : ℕ
least_node = 112

abbrev pub most_kind_bytes : ℕ
most_kind_bytes = 65535

pub record IsObjectKind (kind : ObjectKind) : Type 0 where
  pub name : is_name kind.name ≡ true
  pub block_least : least_node ≤ kind.block
  pub block_most : kind.block ≤ most_kind_bytes
  pub bytes : kind.bytes ≤ most_kind_bytes

-- no kind has the name of an earlier one
abbrev pub KindsDiffer : List ObjectKind → Type 0
KindsDiffer [] = Unit {0}
KindsDiffer (kind ∷ rest) = (kind_named kind.name rest ≡ None) × KindsDiffer rest

pub record AreObjectKinds (kinds : List ObjectKind) : Type 0 where
  pub each : AllByRecursion IsObjectKind kinds
  pub differ : KindsDiffer kinds
  pub few : length kinds ≤ most_kinds
