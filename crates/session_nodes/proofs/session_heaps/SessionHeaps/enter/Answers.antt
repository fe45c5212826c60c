-- The memory is counted as it is.
use Rattle.std.proofs.Common.{sym, subst}
use Rattle.std.specs.Prelude.{slice_index}
use Rattle.session_nodes.specs.Index.{CanEnter}
use Rattle.session_nodes.specs.Node.{rank_by}
use Rattle.session_nodes.specs.SessionHeaps.{stock_of}
use Rattle.session_nodes.proofs.AfterLemmas.{furnished_after}
use Rattle.session_nodes.proofs.session_heaps.SessionHeaps.enter.Goals as goal

pub enter-requires-clause-furnished : goal.enter-requires-clause-furnished
enter-requires-clause-furnished g c = furnished_after c.over-counted.ensures.memory c.requires.furnished

pub enter-requires-clause-unnamed : goal.enter-requires-clause-unnamed
enter-requires-clause-unnamed g c =
    let q = c.requires.unnamed in (
      q.0,
      subst (λ m. CanEnter c.args.root q.0 c.args.node.now.address (rank_by (slice_index c.of.result.words)) (stock_of c.args.self.now m c.args.map.now).nodes) (sym c.over-counted.ensures.memory)
          (subst (λ r. CanEnter c.args.root q.0 c.args.node.now.address r (stock_of c.args.self.now c.args.memory.now c.args.map.now).nodes) (sym c.of.ensures) q.1),
    )
