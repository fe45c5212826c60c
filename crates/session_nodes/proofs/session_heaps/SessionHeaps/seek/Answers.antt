-- The memory is counted as it is.
use Rattle.std.proofs.Common.{sym, subst}
use Rattle.session_nodes.specs.Index.{IsNamed}
use Rattle.session_nodes.specs.SessionHeaps.{stock_of}
use Rattle.session_nodes.proofs.AfterLemmas.{furnished_after}
use Rattle.session_nodes.proofs.session_heaps.SessionHeaps.seek.Goals as goal

pub seek-requires-clause-furnished : goal.seek-requires-clause-furnished
seek-requires-clause-furnished g c = furnished_after c.over-counted.ensures.memory c.requires.furnished

pub seek-requires-clause-named : goal.seek-requires-clause-named
seek-requires-clause-named g c = let q = c.requires.named in (q.0, subst (λ m. IsNamed c.args.root (stock_of c.args.self.now m c.args.map.now).nodes q.0) (sym c.over-counted.ensures.memory) q.1)
