-- A session without nodes has no objects.
use Rattle.std.proofs.Common.{ℕ, List, true≢false, sym, ap, subst, ◌∙◌}
use Rattle.std.specs.Prelude.{map}
use Rattle.own_model.specs.OwnHeap.{OwnHeap}
use Rattle.session_nodes.specs.NodeList.{heap_in}
use Rattle.session_nodes.specs.Frame.{is_listed}
use Rattle.object_service.specs.Counts.{AreCounted}
use Rattle.object_service.specs.Objects.{number_at}
use Rattle.object_service.proofs.session.ObjectSession.open.Goals as goal

pub returns-clause-kept : goal.returns-clause-kept
returns-clause-kept c share alone linked =
    let nodes : OwnHeap = heap_in c.new.result.heaps.nodes share in
    record {
      heaps = c.new.ensures.kept share alone linked;
      nodes = c.new.ensures.nodes share;
      objects = λ b t. absurd (true≢false (sym t ∙ ap (λ xs. is_listed xs b) (c.new.ensures.none share)));
      counted = subst (λ (blocks : List ℕ). AreCounted c.new-2.result (map (number_at nodes) blocks)) (sym (c.new.ensures.none share)) c.new-2.ensures;
      buffer = c.new.ensures.not_lent share alone;
    }
