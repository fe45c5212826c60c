-- A range that is found lies in a region, and that has as many pages as its dataspace.
use Rattle.own_model.proofs.RegionRangeLemmas.{range_fits}
use Rattle.own_model.proofs.regions.found_ranges_fit.Goals as goal

pub returns : goal.returns
returns c = range_fits
