-- The account goes, and its limits come to its parent.
use Rattle.std.proofs.Common.{sym, unwrap_or, ap, subst, ◌∙◌, arith}
use Rattle.own_model.proofs.NatMapLemmas.{value_at}
use Rattle.quota_core.specs.Books.{AreSound, AreRelated}
use Rattle.quota_core.proofs.BooksLemmas.{entry_there, entry_leaves}
use Rattle.quota_core.proofs.books.Books.close.Goals as goal

pub remove-closed-requires : goal.remove-closed-requires
remove-closed-requires c =
    let parent = value_at c.args.self.now.parents c.args.account.0 c.requires.child in
    let sound = subst AreSound c.self.view_is c.self.invariant in
    entry_there _ _ _ c.self.view_is c.args.account.0 (sound.related c.args.account.0 parent.0 parent.1).child_open

pub invariant_of-self : goal.invariant_of-self
invariant_of-self c =
    let gone = c.remove-closed.ensures in
    (entry_leaves _ _ _ c.self.view_is _ _ c.remove-closed.result (subst AreSound c.self.view_is c.self.invariant) gone.value c.requires.child c.requires.leaf gone.updates gone.len gone.room gone.capacity).sound

pub take_over-requires : goal.take_over-requires
take_over-requires c =
    let gone = c.remove-closed.ensures in
    let sound = subst AreSound c.self.view_is c.self.invariant in
    let leaves = entry_leaves _ _ _ c.self.view_is _ _ c.remove-closed.result sound gone.value c.requires.child c.requires.leaf gone.updates gone.len gone.room gone.capacity in
    record { «open» = leaves.parent_open; ram = omega (arith, leaves.ram, sound.ram); caps = omega (arith, leaves.caps, sound.caps) }

pub returns-clause-closed : goal.returns-clause-closed
returns-clause-closed c =
    let gone = c.remove-closed.ensures in
    c.take_over.ensures.raised
    ∙ (entry_leaves _ _ _ c.self.view_is _ _ c.remove-closed.result (subst AreSound c.self.view_is c.self.invariant) gone.value c.requires.child c.requires.leaf gone.updates gone.len gone.room gone.capacity).closed

pub returns-clause-limits : goal.returns-clause-limits
returns-clause-limits c =
    let gone = c.remove-closed.ensures in
    let left = entry_leaves _ _ _ c.self.view_is _ _ c.remove-closed.result (subst AreSound c.self.view_is c.self.invariant) gone.value c.requires.child c.requires.leaf gone.updates gone.len gone.room gone.capacity in
    record { ram = c.take_over.ensures.ram ∙ left.ram; caps = c.take_over.ensures.caps ∙ left.caps }

pub returns-clause-related : goal.returns-clause-related
returns-clause-related c =
    let parent = value_at c.args.self.now.parents c.args.account.0 c.requires.child in
    let sound = subst AreSound c.self.view_is c.self.invariant in
    subst (AreRelated c.args.self.now c.args.account.0) (sym (ap (λ o. unwrap_or o c.args.self.now.root) parent.1)) (sound.related c.args.account.0 parent.0 parent.1)
