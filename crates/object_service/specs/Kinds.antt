-- The kinds of a declared server by their numbers.
use Rattle.std.specs.Prelude.{ℕ, List, [], slice_get}
use Rattle.std.specs.Option.{unwrap_or}
use Rattle.own_model.specs.ObjectKinds.{ObjectKind}

-- no kind: it has no name, and a kind of a list has one
abbrev pub no_kind : ObjectKind
no_kind = record { name = []; block = 0; bytes = 0 }

-- the kind of a number
abbrev pub kind_at : List ObjectKind → ℕ → ObjectKind
kind_at kinds number = unwrap_or (slice_get kinds number) no_kind
