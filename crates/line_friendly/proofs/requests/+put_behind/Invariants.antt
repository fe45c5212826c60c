-- Each step passes a size.
use Rattle.std.proofs.Common.{length}
use Rattle.line_friendly.proofs.requests.+put_behind.Given as goal

abbrev pub decreases-put_behind : goal.decreases-put_behind
decreases-put_behind l = length l.sizes.now
