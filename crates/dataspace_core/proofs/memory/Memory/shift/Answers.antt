-- Limits move, and the parts of the others stay.
use Rattle.std.proofs.Common.{sym, subst}
use Rattle.std.specs.Prelude.{OnOk}
use Rattle.dataspace_core.specs.Store.{Store, AreSiblingsIn, ShiftsPart}
use Rattle.dataspace_core.specs.Layout.{store_of}
use Rattle.dataspace_core.proofs.MemoryLemmas.{IsSound-move, moves-part}
use Rattle.dataspace_core.proofs.memory.Memory.shift.Goals as goal

pub shift-requires : goal.shift-requires
shift-requires c = subst (λ (s : Store). AreSiblingsIn s c.args.from.0 c.args.to.0) (sym c.self.view_is) c.requires

pub invariant_of-self : goal.invariant_of-self
invariant_of-self c =
    IsSound-move c.self.invariant c.args.from.0 c.args.to.0 c.args.ram.0 c.args.caps.0 c.requires.apart c.shift.ensures.from c.shift.ensures.to
    c.shift.new.self c.shift.ensures.limits c.shift.result c.shift.ensures.refusal c.shift.ensures.ok c.shift.ensures.err

pub returns-clause-part : goal.returns-clause-part
returns-clause-part c =
    subst
    (λ (s : Store). OnOk c.shift.result (ShiftsPart c.args.from.0 c.args.to.0 c.args.ram.0 c.args.caps.0 s (store_of c.shift.new.self c.self.inside.pool c.self.inside.table.items c.self.inside.spaces)))
    c.self.view_is
    (moves-part c.self.invariant c.args.from.0 c.args.to.0 c.args.ram.0 c.args.caps.0 c.requires.apart c.shift.ensures.from c.shift.ensures.to
    c.shift.new.self c.shift.ensures.limits c.shift.result c.shift.ensures.ok)
