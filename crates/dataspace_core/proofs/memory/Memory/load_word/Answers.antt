-- The word lies in the dataspace's run, which has its bytes.
use Rattle.std.proofs.Common.{◌+◌, ap, ◌∙◌, arith}
use Rattle.std.specs.Prelude.{slice_range}
use Rattle.trade_base.specs.Word.{word_of}
use Rattle.dataspace_core.proofs.MemoryLemmas.{key_there, runs_from}
use Rattle.dataspace_core.proofs.memory.Memory.load_word.Goals as goal

pub start-start-requires : goal.start-start-requires
start-start-requires c = key_there c.self.invariant c.args.ds.0 c.self.view_is c.requires.exists

pub load_run-requires : goal.load_run-requires
load_run-requires c = let found = runs_from c.self.invariant c.args.ds.0 _ c.start-start.ensures c.self.view_is in (found.space.run.count, found.run, record { aligned = c.requires.aligned; within = omega (arith, c.requires.range, found.size) })

pub returns : goal.returns
returns c =
    let found = runs_from c.self.invariant c.args.ds.0 _ c.start-start.ensures c.self.view_is in
    c.load_run.ensures found.space.run.count found.run (record { aligned = c.requires.aligned; within = omega (arith, c.requires.range, found.size) })
    ∙ ap (λ b. word_of (slice_range b c.args.offset (c.args.offset + 8))) found.bytes
