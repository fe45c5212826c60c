-- The one account of the slab is the root.
use Rattle.std.proofs.Common.{◌≡◌, [], rules, sym, subst}
use Rattle.quota_core.specs.Books.{AreSound}
use Rattle.quota_core.proofs.BooksLemmas.{booted}
use Rattle.quota_core.proofs.BooksLaws.{sound_fresh}
use Rattle.quota_core.proofs.books.Books.boot.Goals as goal

pub returns-clause-fresh : goal.returns-clause-fresh
returns-clause-fresh c =
    let none : c.in_ok-entries.entries.slots ≡ [] = search rules in
    booted _ _ _ _ _ _ none c.opened.ensures.is c.insert_reserved-root.ensures.updates

pub invariant_of-result : goal.invariant_of-result
invariant_of-result c =
    let none : c.in_ok-entries.entries.slots ≡ [] = search rules in
    subst AreSound (sym (booted _ _ _ _ _ _ none c.opened.ensures.is c.insert_reserved-root.ensures.updates))
    (sound_fresh _ c.args.ram.0 c.args.caps.0 _ c.opened.ensures.ram c.opened.ensures.caps)
