-- The words lie in the dataspace's run.
use Rattle.std.proofs.Common.{◌≡◌, ℕ, ◌++◌, length, ap, ◌∙◌, arith}
use Rattle.std.proofs.lemmas.List.{length-append}
use Rattle.trade_base.specs.Word.{word_bytes}
use Rattle.trade_base.proofs.WordLemmas.{length-word_bytes}
use Rattle.dataspace_core.specs.Store.{Store, with_bytes_at}
use Rattle.dataspace_core.proofs.MemoryLemmas.{key_there, leaves-write_from, runs_from}
use Rattle.dataspace_core.proofs.memory.Memory.store_words.Goals as goal

words_long : (first second third : ℕ) → length (word_bytes first ++ word_bytes second ++ word_bytes third) ≡ 24
words_long first second third =
    length-append (word_bytes first ++ word_bytes second) (word_bytes third)
    ∙ omega (arith, length-append (word_bytes first) (word_bytes second), length-word_bytes first, length-word_bytes second, length-word_bytes third)

pub start-start-requires : goal.start-start-requires
start-start-requires c = key_there c.self.invariant c.args.ds.0 c.self.view_is c.requires.exists

pub store_run_words-requires : goal.store_run_words-requires
store_run_words-requires c = let found = runs_from c.self.invariant c.args.ds.0 _ c.start-start.ensures c.self.view_is in (found.space.run.count, found.run, record { some = omega arith; fits = c.requires.page; within = omega (arith, c.requires.range, found.size) }, c.requires.aligned)

pub invariant_of-self : goal.invariant_of-self
invariant_of-self c =
    let found = runs_from c.self.invariant c.args.ds.0 _ c.start-start.ensures c.self.view_is in
    (leaves-write_from c.self.invariant c.args.ds.0 _ found (omega (arith, c.requires.range, found.size, words_long c.args.words.0 c.args.words.1 c.args.words.2))
    (c.store_run_words.ensures found.space.run.count found.run (record { some = omega arith; fits = c.requires.page; within = omega (arith, c.requires.range, found.size) }))).sound

pub returns : goal.returns
returns c =
    let found = runs_from c.self.invariant c.args.ds.0 _ c.start-start.ensures c.self.view_is in
    let bytes = word_bytes c.args.words.0 ++ word_bytes c.args.words.1 ++ word_bytes c.args.words.2 in
    (leaves-write_from c.self.invariant c.args.ds.0 _ found (omega (arith, c.requires.range, found.size, words_long c.args.words.0 c.args.words.1 c.args.words.2))
    (c.store_run_words.ensures found.space.run.count found.run (record { some = omega arith; fits = c.requires.page; within = omega (arith, c.requires.range, found.size) }))).is
    ∙ ap (λ (s : Store). with_bytes_at s c.args.ds.0 c.args.offset bytes) c.self.view_is
