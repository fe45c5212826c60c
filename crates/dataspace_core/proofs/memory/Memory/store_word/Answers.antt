-- The word lies in the dataspace's run, and only its payer's part has other bytes.
use Rattle.std.proofs.Common.{ap, ◌∙◌, arith}
use Rattle.trade_base.specs.Word.{word_bytes}
use Rattle.trade_base.proofs.WordLemmas.{length-word_bytes}
use Rattle.own_model.proofs.NatMapLemmas.{value_at}
use Rattle.dataspace_core.specs.Store.{Store, with_bytes_at}
use Rattle.dataspace_core.proofs.PartLemmas.{becomes-with_bytes_at}
use Rattle.dataspace_core.proofs.MemoryLemmas.{key_there, leaves-write_from, runs_from}
use Rattle.dataspace_core.proofs.memory.Memory.store_word.Goals as goal

pub start-start-requires : goal.start-start-requires
start-start-requires c = key_there c.self.invariant c.args.ds.0 c.self.view_is c.requires.exists

pub store_run-requires : goal.store_run-requires
store_run-requires c = let found = runs_from c.self.invariant c.args.ds.0 _ c.start-start.ensures c.self.view_is in (found.space.run.count, found.run, record { aligned = c.requires.aligned; within = omega (arith, c.requires.range, found.size) })

pub invariant_of-self : goal.invariant_of-self
invariant_of-self c =
    let found = runs_from c.self.invariant c.args.ds.0 _ c.start-start.ensures c.self.view_is in
    (leaves-write_from c.self.invariant c.args.ds.0 _ found (omega (arith, c.requires.range, found.size, length-word_bytes c.args.word))
    (c.store_run.ensures found.space.run.count found.run (record { aligned = c.requires.aligned; within = omega (arith, c.requires.range, found.size) }))).sound

pub returns-clause-written : goal.returns-clause-written
returns-clause-written c =
    let found = runs_from c.self.invariant c.args.ds.0 _ c.start-start.ensures c.self.view_is in
    (leaves-write_from c.self.invariant c.args.ds.0 _ found (omega (arith, c.requires.range, found.size, length-word_bytes c.args.word))
    (c.store_run.ensures found.space.run.count found.run (record { aligned = c.requires.aligned; within = omega (arith, c.requires.range, found.size) }))).is
    ∙ ap (λ (s : Store). with_bytes_at s c.args.ds.0 c.args.offset (word_bytes c.args.word)) c.self.view_is

pub returns-clause-part : goal.returns-clause-part
returns-clause-part c =
    let space = value_at c.args.self.now.spaces c.args.ds.0 c.requires.exists in
    rw (returns-clause-written c) (becomes-with_bytes_at c.args.self.now c.args.ds.0 space.0 space.1 c.args.offset (word_bytes c.args.word))
