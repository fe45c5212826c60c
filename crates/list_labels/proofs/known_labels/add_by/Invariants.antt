use Rattle.std.proofs.Common.{take}
use Rattle.std.specs.List.{list_any}
use Rattle.list_labels.specs.Asked.{is_known}
use Rattle.list_labels.specs.KnownLabels.{AddsLabels}
use Rattle.list_labels.proofs.known_labels.add_by.Given as goal

abbrev pub invariant-loop-place : goal.invariant-loop-place
invariant-loop-place l =
    AddsLabels (λ label. list_any (is_known l.service l.before label) (take l.place l.rules)) l.initial.known.items l.known.items
