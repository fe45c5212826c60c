-- The regions fit the machine, so there is a gap, and it is that of any larger machine.
use Rattle.std.proofs.Common.{◌≡◌, ℕ, ◌+◌, ◌≤◌, Some, sym, ◌∙◌, subst}
use Rattle.std.specs.Prelude.{Option, IsSome}
use Rattle.own_model.specs.HeapWindow.{heap_gap, largest_machine, pages_of_all}
use Rattle.region_map.specs.Regions.{Regions}
use Rattle.region_map.proofs.HeapLemmas.{has_gap}
use Rattle.region_map.proofs.map.RegionMap.attach_block.Goals as goal

pub unwrap-requires : goal.unwrap-requires
unwrap-requires c =
    let fits = subst (λ (s : Regions). pages_of_all s.heap + c.args.pages ≤ s.pages) (sym c.self.view_is) c.requires.fits in
    subst (λ (o : Option ℕ). IsSome o) (sym c.attach.ensures.gap) (has_gap c.self.inside.user c.self.inside.heap c.self.inside.pages c.args.pages c.self.invariant fits).there

pub returns-clause-lowest : goal.returns-clause-lowest
returns-clause-lowest c =
    let fits = subst (λ (s : Regions). pages_of_all s.heap + c.args.pages ≤ s.pages) (sym c.self.view_is) c.requires.fits in
    subst (λ (s : Regions). heap_gap largest_machine s.heap c.args.pages ≡ Some c.unwrap.result) c.self.view_is
    ((has_gap c.self.inside.user c.self.inside.heap c.self.inside.pages c.args.pages c.self.invariant fits).lowest ∙ sym c.attach.ensures.gap ∙ c.unwrap.ensures)
