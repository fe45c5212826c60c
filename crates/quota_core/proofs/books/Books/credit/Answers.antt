-- The account in the slab is changed, and so is the one in the books.
use Rattle.std.proofs.Common.{refl, sym, subst, arith}
use Rattle.own_model.specs.Account.{credited}
use Rattle.quota_core.specs.Books.{AreSound}
use Rattle.quota_core.proofs.BooksLemmas.{account_changed}
use Rattle.quota_core.proofs.BooksLaws.{sound_with_less}
use Rattle.quota_core.proofs.books.Books.credit.Goals as goal

pub returns : goal.returns
returns c =
    account_changed _ _ _ c.self.view_is (λ a. credited a c.args.ram.0 c.args.caps.0) _ _ _ c.index_mut.ensures.value refl c.credit.ensures

pub invariant_of-self : goal.invariant_of-self
invariant_of-self c =
    subst AreSound (sym (returns c)) (sound_with_less _ (subst AreSound c.self.view_is c.self.invariant) c.args.account.0 _ c.requires.«open» (omega arith) (omega arith))
