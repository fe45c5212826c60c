use Rattle.std.proofs.Common.{[], ◌∷◌, ◌++◌, Some, map, ap, ◌∙◌}
use Rattle.std.proofs.lemmas.List.{map-append}
use Rattle.serde_json.specs.View.{view}
use Rattle.list_faults.proofs.ValueLemmas.{place_more}
use Rattle.list_findings.specs.Objects.{kind_part, object_at, seen_part}
use Rattle.list_findings.specs.declared.members.MemberOwner.TheVariants as table
use Rattle.list_parts.specs.declared.list_part.ListPart.TheVariants as parts
use Rattle.list_findings.proofs.object_parts.add_kinds.Goals as goal

pub loop-place-preserved : goal.loop-place-preserved
loop-place-preserved c =
    let old = map seen_part c.loop-place.parts.items in
    place_more view (kind_part c.args.number c.args.steps.now) old _ c.elements-kind-items.result.now c.loop-place.place c.kind-item.result c.loop-place-test.true c.kind-item.is
    (ap (map seen_part) c.in_ok-push.ensures.items ∙ map-append seen_part c.loop-place.parts.items (_ ∷ [])
    ∙ ap (λ steps. old ++ object_at table.Kind (parts.Kind c.args.number steps c.loop-place.place) (Some (view c.kind-item.result)) ∷ []) c.in_ok-copy.ensures)
    ∙ c.loop-place.invariant
