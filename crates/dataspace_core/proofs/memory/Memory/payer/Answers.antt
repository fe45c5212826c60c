-- The slab names the payer that contracts see.
use Rattle.dataspace_core.proofs.MemoryLemmas.{key_there, is_found}
use Rattle.dataspace_core.proofs.memory.Memory.payer.Goals as goal

pub space_under-requires : goal.space_under-requires
space_under-requires c = key_there c.self.invariant c.args.ds.0 c.self.view_is c.requires

pub returns : goal.returns
returns c = (is_found c.self.invariant c.args.ds.0 c.space_under.result c.space_under.ensures c.self.view_is).payer
