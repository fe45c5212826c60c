-- A parent and its child are two accounts, and both are open.
use Rattle.std.proofs.Common.{subst}
use Rattle.quota_core.specs.Books.{AreSound}
use Rattle.quota_core.proofs.books.Books.raise.Goals as goal

pub pass_on-requires : goal.pass_on-requires
pass_on-requires c =
    let related = (subst AreSound c.self.view_is c.self.invariant).related c.args.child.0 c.args.parent.0 c.requires in
    record { apart = related.apart; from = related.parent_open; to = related.child_open }

pub returns-clause-related : goal.returns-clause-related
returns-clause-related c = (subst AreSound c.self.view_is c.self.invariant).related c.args.child.0 c.args.parent.0 c.requires
