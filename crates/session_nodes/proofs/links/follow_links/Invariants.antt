-- So many links were followed as are no longer left.
use Rattle.std.proofs.Common.{◌≡◌, ℕ, ◌-◌, ◌<◌}
use Rattle.session_nodes.specs.Links.{followed, ShowsLinks}
use Rattle.session_nodes.proofs.links.follow_links.Given as goal

abbrev pub invariant-links : goal.invariant-links
invariant-links l = record {
  fewer : l.left < l.fn.count;
  address : (link : ℕ → ℕ) → ShowsLinks l.fn.page l.fn.front link l.fn.from l.fn.count → l.address ≡ followed link (l.fn.count - l.left) l.fn.from;
}

abbrev pub decreases-links : goal.decreases-links
decreases-links l = l.left
