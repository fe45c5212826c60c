-- Each step passes a size.
use Rattle.std.proofs.Common.{length}
use Rattle.line_friendly.proofs.requests.+has_suffix_in.Given as goal

abbrev pub decreases-has_suffix_in : goal.decreases-has_suffix_in
decreases-has_suffix_in l = length l.sizes.now
