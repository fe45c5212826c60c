-- A new object needs the least chunk for its block, and other units of an object are found by its size.
use Rattle.std.proofs.Common.{◌<◌, sym, ap, ◌∙◌, subst}
use Rattle.std.specs.Prelude.{Some}
use Rattle.session_proto.specs.Objects.{model_request}
use Rattle.own_model.specs.ObjectKinds.{kind_named}
use Rattle.budget_meter.specs.Asked.{chunk_tests, holding_asked, node_asked}
use Rattle.budget_meter.specs.ObjectSizes.{KnownObjects, size_named}
use Rattle.budget_meter.specs.ObjectTests.{units_tests}
use Rattle.budget_meter.proofs.ObjectToldLemmas.{resize_tested}
use Rattle.budget_meter.proofs.object_requests.object_amounts.Goals as goal

pub returns-in_ok-kind-in-Make : goal.returns-in_ok-kind-in-Make
returns-in_ok-kind-in-Make c = λ kinds stored knows.
    let name = c.in-Make.kind.now in
    c.least_chunk.ensures.chunk (subst (λ n. n < 65536) (sym c.from.ensures) c.block.type_inv)
    ∙ ap chunk_tests (c.from.ensures ∙ c.block.ensures)
    ∙ ap node_asked c.in_ok-kind-in-Make.ensures
    ∙ ap (λ (known : KnownObjects). node_asked (kind_named name known.kinds)) knows
    ∙ ap (λ request. holding_asked kinds (Some (model_request request)) stored) (sym c.in-Make.is)

pub returns-in-Resize : goal.returns-in-Resize
returns-in-Resize c = λ kinds stored knows.
    let name = c.in-Resize.name.now in
    let units = c.in-Resize.units in
    c.resized.ensures
    ∙ ap (λ (known : KnownObjects). units_tests units (size_named name known.objects)) knows
    ∙ resize_tested stored name units
    ∙ ap (λ request. holding_asked kinds (Some (model_request request)) stored) (sym c.in-Resize.is)
