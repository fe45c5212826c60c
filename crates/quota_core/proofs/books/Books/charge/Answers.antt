-- The account in the slab is changed, and so is the one in the books.
use Rattle.std.proofs.Common.{refl, subst, arith}
use Rattle.own_model.specs.Account.{charged}
use Rattle.quota_core.specs.Books.{AreSound}
use Rattle.quota_core.proofs.BooksLemmas.{changed_if, kept_if}
use Rattle.quota_core.proofs.BooksLaws.{sound_if}
use Rattle.quota_core.proofs.books.Books.charge.Goals as goal

pub returns-clause-ok : goal.returns-clause-ok
returns-clause-ok c =
    changed_if _ _ _ c.self.view_is _ (λ a. charged a c.args.ram.0 c.args.caps.0) _ _ _ c.index_mut.ensures.value refl c.charge.ensures.ok

pub returns-clause-err : goal.returns-clause-err
returns-clause-err c = kept_if _ _ _ c.self.view_is _ _ _ _ c.index_mut.ensures.value refl c.charge.ensures.err

pub invariant_of-self : goal.invariant_of-self
invariant_of-self c =
    sound_if _ (subst AreSound c.self.view_is c.self.invariant) c.charge.result (λ a. charged a c.args.ram.0 c.args.caps.0) c.args.account.0 _ c.requires (omega arith) (omega arith) (returns-clause-ok c) (returns-clause-err c)
