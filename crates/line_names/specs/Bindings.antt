-- What is known, by its bindings.
use Rattle.std.specs.Prelude.{ℕ, List, map}
use Rattle.line_names.specs.NameTable.{Binding, NameTable}
use Rattle.line_names.specs.declared.name_table.Binding.{Binding as Bound}

abbrev pub binding_of : Bound → Binding
binding_of binding = record { name = binding.name.items; value = binding.value.items }

abbrev pub known_in : List Bound → List Bound → List ℕ → NameTable
known_in given bound rounds = record { given = map binding_of given; bound = map binding_of bound; rounds = rounds }
