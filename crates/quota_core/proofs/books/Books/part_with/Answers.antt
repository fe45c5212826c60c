-- The account in the slab parts with limits, and so does the one in the books.
use Rattle.std.proofs.Common.{refl, sym, ap, subst, ◌∙◌, arith}
use Rattle.own_model.specs.Account.{parted_with, shortage}
use Rattle.quota_core.specs.Books.{AreSound}
use Rattle.quota_core.proofs.BooksLemmas.{account_at-slab, changed_if, kept_if}
use Rattle.quota_core.proofs.BooksLaws.{sound_if, ram_parted_if, caps_parted_if}
use Rattle.quota_core.proofs.books.Books.part_with.Goals as goal

pub returns-clause-taken : goal.returns-clause-taken
returns-clause-taken c =
    let parted = c.part_with.ensures in
    let ok = changed_if _ _ _ c.self.view_is _ (λ a. parted_with a c.args.ram.0 c.args.caps.0) _ _ _ c.index_mut.ensures.value refl parted.rest in
    -- what the books' account lacks is what the entry's lacks
    let refusal = parted.refusal ∙ ap (λ a. shortage a c.args.ram.0 c.args.caps.0) (sym (account_at-slab _ _ _ c.self.view_is _ _ c.index_mut.ensures.value)) in
    record {
      refusal = refusal;
      ok = ok;
      part = parted.part;
      err = kept_if _ _ _ c.self.view_is _ _ _ _ c.index_mut.ensures.value refl parted.err;
      less_ram = ram_parted_if _ _ _ c.args.ram.0 c.args.caps.0 c.requires c.part_with.result refusal ok parted.part;
      fewer_caps = caps_parted_if _ _ _ c.args.ram.0 c.args.caps.0 c.requires c.part_with.result refusal ok parted.part;
    }

pub invariant_of-self : goal.invariant_of-self
invariant_of-self c =
    let taken = returns-clause-taken c in
    sound_if _ (subst AreSound c.self.view_is c.self.invariant) c.part_with.result (λ a. parted_with a c.args.ram.0 c.args.caps.0) c.args.account.0 _ c.requires (omega arith) (omega arith) taken.ok taken.err

pub returns-clause-few : goal.returns-clause-few
returns-clause-few c = let sound = subst AreSound c.self.view_is c.self.invariant in record { ram = sound.ram; caps = sound.caps }
