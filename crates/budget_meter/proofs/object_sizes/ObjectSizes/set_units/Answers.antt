-- By the place of the object, or where it has none.
use Rattle.std.proofs.Common.{ap, sym, ◌∙◌, set, get_or}
use Rattle.budget_meter.specs.ObjectSizes.{KnownObjects, ObjectSize, has_name, with_size}
use Rattle.budget_meter.proofs.FirstLemmas.{with_there, with_nowhere}
use Rattle.budget_meter.proofs.object_sizes.ObjectSizes.set_units.Goals as goal

pub returns-in-Some : goal.returns-in-Some
returns-in-Some c =
    let known = c.args.self.now in
    let place = c.in-Some.place in
    let units = c.args.units in
    let d = c.index_mut.result.now in
    ap (λ (x : ObjectSize). record { kinds = c.self.inside.kinds.items; objects = set c.self.inside.objects.items place (with_size units x) }) (c.behind-self.view_is ∙ c.index_mut.ensures.value)
    ∙ ap (λ (k : KnownObjects). record k { objects = set k.objects place (with_size units (get_or k.objects place d)) }) c.self.view_is
    ∙ ap (λ os. record known { objects = os }) (sym (with_there (has_name c.args.name.now) (with_size units) known.objects place d (sym c.in-Some.ensures.place)))

pub returns-in_default : goal.returns-in_default
returns-in_default c =
    let known = c.args.self.now in
    ap (λ os. record known { objects = os }) (sym (with_nowhere (has_name c.args.name.now) (with_size c.args.units) known.objects (sym c.in_default.ensures.place)))
