-- The range lies in the dataspace's run, which has its bytes.
use Rattle.std.proofs.Common.{◌+◌, length, ap, ◌∙◌, arith}
use Rattle.std.specs.Prelude.{slice_range}
use Rattle.dataspace_core.proofs.MemoryLemmas.{key_there, is_found}
use Rattle.dataspace_core.proofs.memory.Memory.read.Goals as goal

pub space_under-requires : goal.space_under-requires
space_under-requires c = key_there c.self.invariant c.args.ds.0 c.self.view_is c.requires.exists

pub read_run-requires : goal.read_run-requires
read_run-requires c =
    let found = is_found c.self.invariant c.args.ds.0 c.space_under.result c.space_under.ensures c.self.view_is in
    record { run = found.run; small = found.small; range = omega (arith, c.requires.range, found.size) }

pub returns : goal.returns
returns c =
    let found = is_found c.self.invariant c.args.ds.0 c.space_under.result c.space_under.ensures c.self.view_is in
    c.read_run.ensures ∙ ap (λ bytes. slice_range bytes c.args.offset (c.args.offset + length c.args.buffer.now)) found.bytes
