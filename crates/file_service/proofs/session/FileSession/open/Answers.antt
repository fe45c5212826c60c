-- A session without nodes has no files.
use Rattle.std.proofs.Common.{rules, ◌≡◌}
use Rattle.std.specs.Prelude.{map}
use Rattle.own_model.specs.OwnHeap.{OwnHeap}
use Rattle.own_model.specs.Services.ServiceState.{Filing}
use Rattle.session_nodes.specs.NodeList.{heap_in}
use Rattle.session_nodes.specs.Frame.{sliced_of}
use Rattle.file_service.specs.Files.{file_at}
use Rattle.file_service.proofs.session.FileSession.open.Goals as goal

pub returns-clause-first : goal.returns-clause-first
returns-clause-first c share alone =
    let nodes : OwnHeap = heap_in c.new.result.heaps.nodes share in
    let label : c.try_extend_from_slice.new.self.items ≡ c.args.label.now = search rules in
    λ i. record { label = label i; state = Filing (record { files = map (file_at nodes (sliced_of share)) (c.new.ensures.none share i); shape = c.new.ensures.empty share i }) }

pub returns-clause-kept : goal.returns-clause-kept
returns-clause-kept c share alone linked = record {
  heaps = c.new.ensures.kept share alone linked;
  buffer = c.new.ensures.not_lent share alone;
  files = c.new.ensures.nodes share;
}
