-- No link leads anywhere.
use Rattle.std.proofs.Common.{None, arith, [], refl, true≢false, sym}
use Rattle.std.specs.FinMap.{len}
use Rattle.own_model.specs.OwnHeap.{OwnHeap}
use Rattle.heap_core.specs.Heap.{heap_in}
use Rattle.sliced_heap.specs.Sliced.{sliced_of}
use Rattle.session_nodes.specs.Order.{StandAt, link_in}
use Rattle.session_nodes.proofs.LinkLemmas.{along_line}
use Rattle.session_nodes.proofs.NodeKeptLemmas.{indexed_by, named_none}
use Rattle.session_nodes.proofs.node_list.NodeList.new.Goals as goal

pub returns-clause-none : goal.returns-clause-none
returns-clause-none c share =
    let nodes : OwnHeap = heap_in c.new.result.nodes share in
    along_line (link_in 0 nodes) (len nodes.payloads) 0 [] refl (omega arith) refl

pub returns-clause-nodes : goal.returns-clause-nodes
returns-clause-nodes c share =
    let stand : StandAt 0 0 (heap_in c.new.result.nodes share) (sliced_of share) [] = record {
      line = record { leads = refl; once = refl };
      last_is = refl;
      each = λ b t. absurd (true≢false (sym t));
      apart = λ a b s t some_a some_b same. absurd (true≢false (sym s));
    } in
    record { blocks = []; stand = stand; indexed = indexed_by 0 0 0 None _ _ [] stand (named_none _) tt tt }
