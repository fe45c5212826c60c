-- The new account pays for nothing, and the parts of the others stay.
use Rattle.std.proofs.Common.{sym, subst}
use Rattle.std.specs.Prelude.{IfOk}
use Rattle.quota_core.specs.Books.{IsOpen}
use Rattle.dataspace_core.specs.Store.{Store, IsOpenIn, OpensPart}
use Rattle.dataspace_core.specs.Layout.{store_of}
use Rattle.dataspace_core.proofs.MemoryLemmas.{IsSound-open, opens-part}
use Rattle.dataspace_core.proofs.memory.Memory.open.Goals as goal

-- the parent is open in the books
parent_open : (c : goal.After-open) → IsOpen c.self.inside.books c.args.parent.0
parent_open c = subst (λ (s : Store). IsOpenIn s c.args.parent.0) (sym c.self.view_is) c.requires.parent

pub invariant_of-self : goal.invariant_of-self
invariant_of-self c =
    IsSound-open c.self.invariant c.args.parent.0 c.args.ram.0 c.args.caps.0 (parent_open c)
    c.open.new.self c.open.ensures.limits c.open.result c.open.ensures.refusal c.open.ensures.ok c.open.ensures.fresh c.open.ensures.err

pub returns-clause-part : goal.returns-clause-part
returns-clause-part c =
    subst
    (λ (s : Store). IfOk c.open.result (λ child. OpensPart c.args.parent.0 child.0 c.args.ram.0 c.args.caps.0 s (store_of c.open.new.self c.self.inside.pool c.self.inside.table.items c.self.inside.spaces)))
    c.self.view_is
    (opens-part c.self.invariant c.args.parent.0 c.args.ram.0 c.args.caps.0 (parent_open c)
    c.open.new.self (rw (← c.self.view_is) at c.requires.room) c.open.result c.open.ensures.ok c.open.ensures.fresh)
