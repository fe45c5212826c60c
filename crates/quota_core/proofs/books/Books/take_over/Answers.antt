-- The account in the slab is raised, and so is the one in the books.
use Rattle.std.proofs.Common.{refl, sym, ap, subst, ◌∙◌, arith}
use Rattle.own_model.specs.Donation.{raised}
use Rattle.own_model.proofs.Totals.{total_at_le}
use Rattle.quota_core.specs.Books.{AreSound, ram_limits, caps_limits}
use Rattle.quota_core.proofs.BooksLemmas.{account_at-slab, account_changed}
use Rattle.quota_core.proofs.BooksLaws.{account_there, sound_with_account, ram_raised, caps_raised}
use Rattle.quota_core.proofs.books.Books.take_over.Goals as goal

pub take_over-requires-clause-ram : goal.take_over-requires-clause-ram
take_over-requires-clause-ram c =
    let at = account_at-slab _ _ _ c.self.view_is _ _ c.index_mut.ensures.value in
    let within = total_at_le (λ a. a.ram_limit) c.args.self.now.accounts _ _ (account_there c.args.self.now _ c.requires.«open») in
    omega (arith, within, ap (λ a. a.ram_limit) at, c.requires.ram)

pub take_over-requires-clause-caps : goal.take_over-requires-clause-caps
take_over-requires-clause-caps c =
    let at = account_at-slab _ _ _ c.self.view_is _ _ c.index_mut.ensures.value in
    let within = total_at_le (λ a. a.caps_limit) c.args.self.now.accounts _ _ (account_there c.args.self.now _ c.requires.«open») in
    omega (arith, within, ap (λ a. a.caps_limit) at, c.requires.caps)

pub returns-clause-raised : goal.returns-clause-raised
returns-clause-raised c =
    account_changed _ _ _ c.self.view_is (λ a. raised a c.args.limits.ram_limit c.args.limits.caps_limit) _ _ _ c.index_mut.ensures.value refl c.take_over.ensures

pub invariant_of-self : goal.invariant_of-self
invariant_of-self c =
    let ram = ram_raised c.args.self.now c.args.account.0 c.args.limits.ram_limit c.args.limits.caps_limit c.requires.«open» in
    let caps = caps_raised c.args.self.now c.args.account.0 c.args.limits.ram_limit c.args.limits.caps_limit c.requires.«open» in
    subst AreSound (sym (returns-clause-raised c)) (sound_with_account _ (subst AreSound c.self.view_is c.self.invariant) c.args.account.0 _ (omega (arith, ram, c.requires.ram)) (omega (arith, caps, c.requires.caps)))

pub returns-clause-ram : goal.returns-clause-ram
returns-clause-ram c = ap ram_limits (returns-clause-raised c) ∙ ram_raised c.args.self.now c.args.account.0 c.args.limits.ram_limit c.args.limits.caps_limit c.requires.«open»

pub returns-clause-caps : goal.returns-clause-caps
returns-clause-caps c = ap caps_limits (returns-clause-raised c) ∙ caps_raised c.args.self.now c.args.account.0 c.args.limits.ram_limit c.args.limits.caps_limit c.requires.«open»
