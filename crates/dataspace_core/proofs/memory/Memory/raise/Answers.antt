-- Limits move, and the parts of the others stay.
use Rattle.std.proofs.Common.{sym, subst}
use Rattle.std.specs.Prelude.{OnOk}
use Rattle.dataspace_core.specs.Store.{Store, IsChildIn, RaisesPart}
use Rattle.dataspace_core.specs.Layout.{store_of}
use Rattle.dataspace_core.proofs.MemoryLemmas.{IsSound-move, moves-part}
use Rattle.dataspace_core.proofs.memory.Memory.raise.Goals as goal

pub raise-requires : goal.raise-requires
raise-requires c = subst (λ (s : Store). IsChildIn s c.args.child.0 c.args.parent.0) (sym c.self.view_is) c.requires

pub invariant_of-self : goal.invariant_of-self
invariant_of-self c =
    IsSound-move c.self.invariant c.args.parent.0 c.args.child.0 c.args.ram.0 c.args.caps.0 c.raise.ensures.related.apart c.raise.ensures.related.parent_open c.raise.ensures.related.child_open
    c.raise.new.self c.raise.ensures.limits c.raise.result c.raise.ensures.refusal c.raise.ensures.ok c.raise.ensures.err

pub returns-clause-part : goal.returns-clause-part
returns-clause-part c =
    subst
    (λ (s : Store). OnOk c.raise.result (RaisesPart c.args.parent.0 c.args.child.0 c.args.ram.0 c.args.caps.0 s (store_of c.raise.new.self c.self.inside.pool c.self.inside.table.items c.self.inside.spaces)))
    c.self.view_is
    (moves-part c.self.invariant c.args.parent.0 c.args.child.0 c.args.ram.0 c.args.caps.0 c.raise.ensures.related.apart c.raise.ensures.related.parent_open c.raise.ensures.related.child_open
    c.raise.new.self c.raise.ensures.limits c.raise.result c.raise.ensures.ok)
