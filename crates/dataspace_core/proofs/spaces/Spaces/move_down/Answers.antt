-- The starts behind the gap move.
use Rattle.std.proofs.Common.{List, ℕ, refl, sym, subst, ◌∙◌}
use Rattle.std.proofs.lemmas.List.{with_items_is}
use Rattle.dataspace_core.specs.Layout.{HasMovedDown, NoneLiesIn}
use Rattle.dataspace_core.specs.Spaces.{placed, HaveMoved}
use Rattle.dataspace_core.proofs.SpacesLemmas.{HaveMoved-fewer, placed-moved}
use Rattle.dataspace_core.proofs.spaces.Spaces.move_down.Goals as goal

pub returns-then-gap-entries-clause-moved : goal.returns-then-gap-entries-clause-moved
returns-then-gap-entries-clause-moved c =
    let all : HaveMoved c.args.gap.start c.args.gap.count c.block_end-used.result c.self.inside.starts.items c.move_starts.new.starts = rw c.deref_mut.ensures.value at c.move_starts.ensures in
    let moved = HaveMoved-fewer c.args.gap.start c.args.gap.count c.self.inside.used c.block_end-used.result c.self.inside.starts.items c.move_starts.new.starts c.block_end-used.ensures.some all in
    let whole = with_items_is c.self.inside.starts c.move_starts.new.starts (moved.size ∙ sym c.self.inside.starts.ok.0) in
    rw (← c.self.view_is)
    (subst (λ (starts : List ℕ). HasMovedDown c.args.gap (placed c.self.inside.kept c.self.inside.starts.items) (placed c.self.inside.kept starts)) (sym whole)
    (placed-moved _ _ _ c.args.gap.start c.args.gap.count c.self.invariant _ moved c.args.gap (subst (NoneLiesIn c.args.gap) (sym c.self.view_is) c.requires.within) refl refl))
