-- The memory is counted as it is.
use Rattle.std.proofs.Common.{sym, subst}
use Rattle.session_nodes.specs.Index.{IsNamed}
use Rattle.session_nodes.specs.SessionHeaps.{stock_of}
use Rattle.session_nodes.proofs.AfterLemmas.{furnished_after}
use Rattle.session_nodes.proofs.session_heaps.SessionHeaps.leave.Goals as goal

pub leave-requires-clause-furnished : goal.leave-requires-clause-furnished
leave-requires-clause-furnished g c = furnished_after c.over-counted.ensures.memory c.requires.furnished

pub leave-requires-clause-named : goal.leave-requires-clause-named
leave-requires-clause-named g c = let q = c.requires.named in (q.0, subst (λ m. IsNamed c.args.root (stock_of c.args.self.now m c.args.map.now).nodes q.0) (sym c.over-counted.ensures.memory) q.1)
