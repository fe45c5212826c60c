-- The account pays for nothing, and the parts of the others stay.
use Rattle.std.proofs.Common.{◌≡◌, refl, sym, subst}
use Rattle.std.specs.FinMap.{get}
use Rattle.dataspace_core.specs.Store.{Store, account_in, parent_in, ClosesPart}
use Rattle.dataspace_core.specs.Layout.{store_of}
use Rattle.dataspace_core.proofs.PaidLemmas.{no_ram_used}
use Rattle.dataspace_core.proofs.MemoryLemmas.{IsSound-close, closes-part}
use Rattle.dataspace_core.proofs.memory.Memory.close.Goals as goal

-- the account uses no capability in the books
unused : (c : goal.After-close) → (account_in (store_of c.self.inside.books c.self.inside.pool c.self.inside.table.items c.self.inside.spaces) c.args.account.0).caps_used ≡ 0
unused c = subst (λ (s : Store). (account_in s c.args.account.0).caps_used ≡ 0) (sym c.self.view_is) c.requires.unused

pub close-requires-clause-ram_used : goal.close-requires-clause-ram_used
close-requires-clause-ram_used c =
    no_ram_used _ _ _ c.self.invariant.paid c.args.account.0 (get c.self.inside.books.accounts c.args.account.0) refl
    (subst (λ (s : Store). (account_in s c.args.account.0).caps_used ≡ 0) (sym c.self.view_is) c.requires.unused)

pub invariant_of-self : goal.invariant_of-self
invariant_of-self c =
    IsSound-close c.self.invariant c.args.account.0 c.close.ensures.related
    (unused c)
    c.close.new.self c.close.ensures.closed c.close.ensures.limits

pub returns-clause-part : goal.returns-clause-part
returns-clause-part c =
    subst
    (λ (s : Store). ClosesPart c.args.account.0 (parent_in s c.args.account.0) s (store_of c.close.new.self c.self.inside.pool c.self.inside.table.items c.self.inside.spaces))
    c.self.view_is
    (closes-part c.self.invariant c.args.account.0 c.close.ensures.related
    (unused c)
    c.close.new.self c.close.ensures.closed)
