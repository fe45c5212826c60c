-- By the place of the object, or where it has none.
use Rattle.std.proofs.Common.{ap, sym, ◌∙◌}
use Rattle.std.specs.List.{remove}
use Rattle.budget_meter.specs.ObjectSizes.{KnownObjects, has_name}
use Rattle.budget_meter.proofs.FirstLemmas.{without_there, without_nowhere}
use Rattle.budget_meter.proofs.object_sizes.ObjectSizes.remove.Goals as goal

pub returns-in-Some : goal.returns-in-Some
returns-in-Some c =
    let known = c.args.self.now in
    let place = c.in-Some.place in
    ap (λ os. record { kinds = c.self.inside.kinds.items; objects = os }) c.remove.ensures.items
    ∙ ap (λ (k : KnownObjects). record k { objects = remove k.objects place }) c.self.view_is
    ∙ ap (λ os. record known { objects = os }) (sym (without_there (has_name c.args.name.now) known.objects place (sym c.in-Some.ensures.place)))

pub returns-in_default : goal.returns-in_default
returns-in_default c =
    let known = c.args.self.now in
    ap (λ os. record known { objects = os }) (sym (without_nowhere (has_name c.args.name.now) known.objects (sym c.in_default.ensures.place)))
