use Rattle.std.proofs.Common.{◌≡◌, map, take}
use Rattle.line_names.specs.Bindings.{binding_of}
use Rattle.line_names.proofs.name_table.copy_bindings.Given as goal

abbrev pub invariant-loop-binding : goal.invariant-loop-binding
invariant-loop-binding l = map binding_of l.copies.items ≡ map binding_of (take l.binding-index l.bindings)
