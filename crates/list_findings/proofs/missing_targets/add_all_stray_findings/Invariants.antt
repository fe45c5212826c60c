use Rattle.std.proofs.Common.{◌≡◌, ◌++◌, drop, None}
use Rattle.std.specs.List.{flat_map}
use Rattle.own_model.specs.Listed.{services_of}
use Rattle.list_findings.specs.Findings.{stray_findings, strays_of}
use Rattle.list_parts.specs.Steps.{part_of}
use Rattle.list_parts.specs.declared.list_part.PartId.TheVariants as about
use Rattle.list_findings.proofs.missing_targets.add_all_stray_findings.Given as goal

-- the findings so far and those of the other services
abbrev pub invariant-loop-number : goal.invariant-loop-number
invariant-loop-number l =
    l.found.items ++ flat_map (strays_of l.list.entries l.placed.init (part_of l.list.entries (about.Rule l.placed.owner l.placed.place)) l.placed.earlier.now l.placed.rule.now) (drop l.number (services_of l.list.entries))
    ≡ l.initial.found.items ++ stray_findings l.list.entries l.placed.init (part_of l.list.entries (about.Rule l.placed.owner l.placed.place)) l.placed.earlier.now l.placed.rule.now None
