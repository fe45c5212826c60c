-- The account pays for the dataspace, so it is there, holds the header, and the account's part is what becomes another.
use Rattle.std.proofs.Common.{◌≡◌, subst, arith, ℕ}
use Rattle.dataspace_core.specs.Store.{part, PartBecomes, part_with_bytes}
use Rattle.dataspace_core.proofs.PartLaws.{paid_in_part}
use Rattle.std.proofs.Common.{refl}
use Rattle.trade_base.specs.Word.{word_bytes}
use Rattle.dataspace_core.specs.Store.{Store}
use Rattle.sliced_heap.proofs.HeaderLemmas.{is_stored}
use Rattle.sliced_heap.proofs.header.store.Goals as goal

pub store_word-requires-clause-exists : goal.store_word-requires-clause-exists
store_word-requires-clause-exists c = (paid_in_part c.args.account.0 c.args.ds.0 c.requires.header.bytes c.args.memory.now c.requires.header.there).exists

pub store_word-requires-clause-range : goal.store_word-requires-clause-range
store_word-requires-clause-range c =
    let paid = paid_in_part c.args.account.0 c.args.ds.0 c.requires.header.bytes c.args.memory.now c.requires.header.there in
    rw paid.bytes_are (let long = c.requires.header.long in let within = c.requires.field.within in omega (arith, long, within))

becomes : (account ds field word : ℕ) (old new : Store) (payer : ℕ) → payer ≡ account → PartBecomes payer (part_with_bytes (part payer old) ds field (word_bytes word)) old new → PartBecomes account (part_with_bytes (part account old) ds field (word_bytes word)) old new
becomes account ds field word old new payer e h = subst (λ (a : ℕ). PartBecomes a (part_with_bytes (part a old) ds field (word_bytes word)) old new) e h

pub store_word-requires-clause-aligned : goal.store_word-requires-clause-aligned
store_word-requires-clause-aligned c = c.requires.field.aligned

pub returns : goal.returns
returns c =
    let paid = paid_in_part c.args.account.0 c.args.ds.0 c.requires.header.bytes c.args.memory.now c.requires.header.there in
    let now = becomes c.args.account.0 c.args.ds.0 c.args.field c.args.word c.args.memory.now c.store_word.new.self _ paid.payer c.store_word.ensures.part in
    record {
      becomes = record { own = refl; others = now.others; root = now.root; parents = now.parents; room = now.room };
      stored = rw now.own (is_stored _ _ _ _ c.requires.header.bytes c.requires.header.there c.ranges.word.fits c.requires.field.within c.requires.header.long);
    }
