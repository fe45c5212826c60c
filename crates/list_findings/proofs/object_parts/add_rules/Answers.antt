use Rattle.std.proofs.Common.{[], ◌∷◌, ◌++◌, Some, map, ap, ◌∙◌}
use Rattle.std.proofs.lemmas.List.{map-append}
use Rattle.serde_json.specs.View.{view}
use Rattle.list_faults.proofs.ValueLemmas.{place_more}
use Rattle.list_findings.specs.Objects.{object_at, rule_part, seen_part}
use Rattle.list_findings.specs.declared.members.MemberOwner.TheVariants as table
use Rattle.list_findings.proofs.object_parts.add_rules.Goals as goal

pub loop-place-preserved : goal.loop-place-preserved
loop-place-preserved c =
    let old = map seen_part c.loop-place.parts.items in
    place_more view (rule_part c.args.owner c.args.steps.now) old _ c.elements-rule-items.result.now c.loop-place.place c.rule-item.result c.loop-place-test.true c.rule-item.is
    (ap (map seen_part) c.in_ok-push.ensures.items ∙ map-append seen_part c.loop-place.parts.items (_ ∷ [])
    ∙ ap (λ part. old ++ object_at table.Rule part (Some (view c.rule-item.result)) ∷ []) c.in_ok-rule_at.ensures)
    ∙ c.loop-place.invariant
