-- The bytes lie in the dataspace's run, which has its bytes.
use Rattle.std.proofs.Common.{◌+◌, ◌*◌, ◌/◌, ap, ◌∙◌, arith}
use Rattle.std.specs.Prelude.{slice_range}
use Rattle.dataspace_core.proofs.MemoryLemmas.{key_there, runs_from}
use Rattle.dataspace_core.proofs.memory.Memory.page.Goals as goal

pub start-start-requires : goal.start-start-requires
start-start-requires c = key_there c.self.invariant c.args.ds.0 c.self.view_is c.requires.exists

pub run_page-requires : goal.run_page-requires
run_page-requires c = let found = runs_from c.self.invariant c.args.ds.0 _ c.start-start.ensures c.self.view_is in (found.space.run.count, found.run, omega (arith, c.requires.range, found.size))

pub returns : goal.returns
returns c =
    let found = runs_from c.self.invariant c.args.ds.0 _ c.start-start.ensures c.self.view_is in
    let start = c.args.offset / 4096 * 4096 in
    record {
      bytes = c.run_page.ensures.bytes found.space.run.count found.run (omega (arith, c.requires.range, found.size)) ∙ ap (λ b. slice_range b start (start + 4096)) found.bytes;
      size = c.run_page.ensures.size;
    }
