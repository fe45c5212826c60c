-- What a meter knows of a session of objects: the kinds that its server offers, and the objects by their names and sizes.
use Rattle.std.specs.Prelude.{ℕ, Bool, List, [], ◌∷◌, map, find, Option, Some, None}
use Rattle.std.specs.Str.{bytes_eq}
use Rattle.own_model.specs.ObjectKinds.{ObjectKind}
use Rattle.own_model.specs.ObjectService.{DeclaredObject, Objects}

-- an object: its name, the bytes of a unit, and its units
pub record ObjectSize : Type 0 where
  pub name : List ℕ
  pub bytes : ℕ
  pub units : ℕ

-- the kinds, and the objects in the order of their creation
pub record KnownObjects : Type 0 where
  pub kinds : List ObjectKind
  pub objects : List ObjectSize

abbrev pub size_of_object : DeclaredObject → ObjectSize
size_of_object object = record { name = object.name; bytes = object.kind.bytes; units = object.units }

-- what is known of a session with these objects
abbrev pub known_of : List ObjectKind → Objects → KnownObjects
known_of kinds objects = record { kinds = kinds; objects = map size_of_object objects.objects }

-- what is known of a new session
abbrev pub new_known : List ObjectKind → KnownObjects
new_known kinds = record { kinds = kinds; objects = [] }

abbrev pub has_name : List ℕ → ObjectSize → Bool
has_name name object = bytes_eq object.name name

-- the object of a name, if there is one
abbrev pub size_named : List ℕ → List ObjectSize → Option ObjectSize
size_named name objects = find (has_name name) objects

abbrev pub with_size : ℕ → ObjectSize → ObjectSize
with_size units object = record object { units = units }

-- a new object of a kind, if there is the kind
abbrev pub new_size : Option ObjectKind → List ℕ → List ObjectSize
new_size None name = []
new_size (Some kind) name = record { name = name; bytes = kind.bytes; units = 0 } ∷ []
