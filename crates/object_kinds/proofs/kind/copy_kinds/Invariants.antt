use Rattle.std.proofs.Common.{◌≡◌, take}
use Rattle.object_kinds.proofs.kind.copy_kinds.Given as goal

abbrev pub invariant-loop-kind : goal.invariant-loop-kind
invariant-loop-kind l = l.copies.items ≡ take l.kind-index l.kinds
