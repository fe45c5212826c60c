-- The account pays for the dataspace, so it is there and holds the header.
use Rattle.std.proofs.Common.{◌+◌, ap, sym, ◌∙◌, arith}
use Rattle.std.specs.Prelude.{slice_range, List, [], ℕ, unwrap_or, Option}
use Rattle.trade_base.specs.Word.{word_of}
use Rattle.dataspace_core.proofs.PartLaws.{paid_in_part}
use Rattle.sliced_heap.specs.Sliced.{word_at}
use Rattle.sliced_heap.proofs.header.load.Goals as goal

pub load_word-requires-clause-exists : goal.load_word-requires-clause-exists
load_word-requires-clause-exists c = (paid_in_part c.args.account.0 c.args.ds.0 c.requires.header.bytes c.args.memory.now c.requires.header.there).exists

pub load_word-requires-clause-range : goal.load_word-requires-clause-range
load_word-requires-clause-range c =
    let paid = paid_in_part c.args.account.0 c.args.ds.0 c.requires.header.bytes c.args.memory.now c.requires.header.there in
    rw paid.bytes_are (let long = c.requires.header.long in let within = c.requires.field.within in omega (arith, long, within))

pub load_word-requires-clause-aligned : goal.load_word-requires-clause-aligned
load_word-requires-clause-aligned c = c.requires.field.aligned

pub returns : goal.returns
unfolding word_at
returns c =
    let paid = paid_in_part c.args.account.0 c.args.ds.0 c.requires.header.bytes c.args.memory.now c.requires.header.there in
    c.load_word.ensures
    ∙ ap (λ bytes. word_of (slice_range bytes c.args.field (c.args.field + 8))) paid.bytes_are
    ∙ ap (λ (o : Option (List ℕ)). word_of (slice_range (unwrap_or o []) c.args.field (c.args.field + 8))) (sym c.requires.header.there)
