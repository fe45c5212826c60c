-- Accounts that have a parent are open.
use Rattle.std.proofs.Common.{subst, ◌∙◌}
use Rattle.own_model.proofs.NatMapLemmas.{value_at}
use Rattle.quota_core.specs.Books.{AreSound}
use Rattle.quota_core.proofs.books.Books.shift.Goals as goal

pub pass_on-requires-clause-from : goal.pass_on-requires-clause-from
pass_on-requires-clause-from c =
    let parent = value_at c.args.self.now.parents c.args.from.0 c.requires.child in
    ((subst AreSound c.self.view_is c.self.invariant).related c.args.from.0 parent.0 parent.1).child_open

pub pass_on-requires-clause-to : goal.pass_on-requires-clause-to
pass_on-requires-clause-to c =
    let parent = value_at c.args.self.now.parents c.args.from.0 c.requires.child in
    ((subst AreSound c.self.view_is c.self.invariant).related c.args.to.0 parent.0 (c.requires.same ∙ parent.1)).child_open

pub returns-clause-from : goal.returns-clause-from
returns-clause-from c =
    let parent = value_at c.args.self.now.parents c.args.from.0 c.requires.child in
    ((subst AreSound c.self.view_is c.self.invariant).related c.args.from.0 parent.0 parent.1).child_open

pub returns-clause-to : goal.returns-clause-to
returns-clause-to c =
    let parent = value_at c.args.self.now.parents c.args.from.0 c.requires.child in
    ((subst AreSound c.self.view_is c.self.invariant).related c.args.to.0 parent.0 (c.requires.same ∙ parent.1)).child_open
