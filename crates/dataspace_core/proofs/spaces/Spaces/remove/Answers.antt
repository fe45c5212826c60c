-- What was kept goes.
use Rattle.dataspace_core.proofs.SpacesLemmas.{kept_there, placed-removed}
use Rattle.dataspace_core.proofs.spaces.Spaces.remove.Goals as goal

pub remove-kept-requires : goal.remove-kept-requires
remove-kept-requires c = kept_there _ _ c.args.key c.self.view_is c.requires

pub returns-clause-updates : goal.returns-clause-updates
returns-clause-updates c =
    rw (← c.self.view_is) (placed-removed _ _ _ _ c.self.invariant c.remove-kept.ensures.capacity c.args.key c.remove-kept.ensures.updates)
