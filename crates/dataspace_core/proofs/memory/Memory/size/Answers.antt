-- The pages of a dataspace make its size.
use Rattle.std.proofs.Common.{◌∙◌}
use Rattle.dataspace_core.proofs.MemoryLemmas.{key_there, is_found}
use Rattle.dataspace_core.proofs.memory.Memory.size.Goals as goal

pub space_under-requires : goal.space_under-requires
space_under-requires c = key_there c.self.invariant c.args.ds.0 c.self.view_is c.requires

pub size_of-requires : goal.size_of-requires
size_of-requires c = (is_found c.self.invariant c.args.ds.0 c.space_under.result c.space_under.ensures c.self.view_is).small

pub returns : goal.returns
returns c = c.size_of.ensures ∙ (is_found c.self.invariant c.args.ds.0 c.space_under.result c.space_under.ensures c.self.view_is).size
