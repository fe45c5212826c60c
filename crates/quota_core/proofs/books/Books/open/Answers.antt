-- The parent's limits are parted, and the child is inserted.
use Rattle.std.proofs.Common.{◌≡◌, ◌-◌, ap, sym, subst, ◌∙◌, arith}
use Rattle.std.specs.FinMap.{get, insert}
use Rattle.own_model.proofs.NatMapLemmas.{IsSome-insert}
use Rattle.quota_core.specs.Books.{Books, AreSound, HasNoChild, ram_limits, caps_limits}
use Rattle.quota_core.specs.SlabBooks.{books_of}
use Rattle.quota_core.proofs.BooksLemmas.{free_key, entry_inserted}
use Rattle.quota_core.proofs.BooksLaws.{free_before, sound_entered, leaf_entered, opened_in_two, opened_ram, opened_caps}
use Rattle.quota_core.proofs.books.Books.open.Goals as goal

-- the account is entered in the books in which its parent has parted with its limits
entered : (c : goal.After-insert_reserved-child) → books_of c.insert_reserved-child.new.self c.self.inside.root ≡ record c.part_with.new.self { accounts = insert c.part_with.new.self.accounts c.insert_reserved-child.result c.in_ok-account.account; parents = insert c.part_with.new.self.parents c.insert_reserved-child.result c.args.parent.0; room = c.part_with.new.self.room - 1 }
entered c =
    let inserted = c.insert_reserved-child.ensures in
    entry_inserted _ _ _ c.self.view_is _ _ _ (subst AreSound c.self.view_is c.self.invariant) inserted.was_vacant inserted.updates inserted.len inserted.capacity

pub invariant_of-self : goal.invariant_of-self
invariant_of-self c =
    let parted = c.in_ok-account.ensures.taken in
    let few = c.in_ok-account.ensures.few in
    subst AreSound (sym (entered c))
    (sound_entered c.part_with.new.self (subst AreSound c.self.view_is c.self.invariant) c.insert_reserved-child.result c.args.parent.0 c.in_ok-account.account _
    (free_key _ _ _ c.self.view_is _ c.insert_reserved-child.ensures.was_vacant)
    (rw parted.ok (IsSome-insert c.args.self.now.accounts _ _ _ c.requires.parent))
    (omega (arith, parted.less_ram, few.ram))
    (omega (arith, parted.fewer_caps, few.caps)))

pub returns-clause-ok : goal.returns-clause-ok
returns-clause-ok c =
    entered c
    ∙ opened_in_two c.args.self.now _ _ _ _ _ _ c.in_ok-account.ensures.taken.ok c.in_ok-account.ensures.taken.part

pub returns-clause-fresh : goal.returns-clause-fresh
returns-clause-fresh c =
    free_before c.args.self.now _ _ _ (ap (λ (b : Books). get b.accounts c.insert_reserved-child.result) (sym c.in_ok-account.ensures.taken.ok) ∙ free_key _ _ _ c.self.view_is _ c.insert_reserved-child.ensures.was_vacant)

pub returns-clause-limits : goal.returns-clause-limits
returns-clause-limits c =
    let taken = c.in_ok-account.ensures.taken in
    let free = free_key _ _ _ c.self.view_is _ c.insert_reserved-child.ensures.was_vacant in
    record {
      ram = ap ram_limits (entered c) ∙ opened_ram c.part_with.new.self _ c.args.parent.0 (c.part_with.new.self.room - 1) _ free ∙ taken.less_ram;
      caps = ap caps_limits (entered c) ∙ opened_caps c.part_with.new.self _ c.args.parent.0 (c.part_with.new.self.room - 1) _ free ∙ taken.fewer_caps;
    }

pub returns-clause-leaf : goal.returns-clause-leaf
returns-clause-leaf c =
    subst (λ (b : Books). HasNoChild b c.insert_reserved-child.result) (sym (entered c))
    (leaf_entered c.part_with.new.self (subst AreSound c.self.view_is c.self.invariant) c.insert_reserved-child.result c.args.parent.0 c.in_ok-account.account (c.part_with.new.self.room - 1)
    (free_key _ _ _ c.self.view_is _ c.insert_reserved-child.ensures.was_vacant)
    (rw c.in_ok-account.ensures.taken.ok (IsSome-insert c.args.self.now.accounts _ _ _ c.requires.parent)))
