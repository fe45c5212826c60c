-- So many links were followed as are no longer left.
use Rattle.std.proofs.Common.{◌≡◌, ◌-◌, ◌≤◌}
use Rattle.session_nodes.specs.Index.{word_at}
use Rattle.session_nodes.specs.Links.{followed}
use Rattle.session_nodes.specs.SessionHeaps.{stock_of}
use Rattle.session_nodes.proofs.session_heaps.SessionHeaps.follow.Given as goal

abbrev pub invariant-pages : goal.invariant-pages
invariant-pages l = record {
  fewer : l.left ≤ l.fn.count;
  address : l.address ≡ followed (word_at (stock_of l.fn.self l.fn.memory l.fn.map).nodes l.fn.link) (l.fn.count - l.left) l.fn.from;
}

abbrev pub decreases-pages : goal.decreases-pages
decreases-pages l = l.left
