-- The new chunk's hole is the best.
use Rattle.std.proofs.Common.{◌≡◌, ℕ, Some, ap, subst, ◌∙◌, is_some}
use Rattle.std.specs.Prelude.{Option, IfSome}
use Rattle.own_model.specs.Growth.{hole_for, new_hole}
use Rattle.heap_core.specs.Calls.{TakesSmall, growth_at, part_at}
use Rattle.heap_core.specs.Heap.{shape_in}
use Rattle.heap_core.proofs.TakesGrownLemmas.{new_best, takes_grown}
use Rattle.heap_core.proofs.heap.Heap.take_grown.Goals as goal

pub unwrap-requires : goal.unwrap-requires
unwrap-requires c = c.take_small.ensures.found ∙ ap is_some (new_best c.args.self.now c.grow.new.self c.args.bytes c.args.memory.now c.grow.new.memory c.args.map.now c.grow.new.map c.requires.sound c.requires.none c.grow.ensures.keeps.payer c.in_ok-grow.ensures.grows)

pub returns-clause-taken : goal.returns-clause-taken
returns-clause-taken c =
    let hole = new_hole (growth_at c.args.bytes c.args.self.now c.args.memory.now) (shape_in c.args.self.now (part_at c.args.self.now c.args.memory.now)) in
    takes_grown c.args.self.now c.grow.new.self c.args.bytes c.args.memory.now c.grow.new.memory c.args.map.now c.grow.new.map c.requires.sound c.requires.none c.grow.ensures.keeps.payer c.in_ok-grow.ensures.grows c.take_small.new.self c.unwrap.result c.take_small.new.memory
    (subst (λ (o : Option ℕ). IfSome o (λ address. hole_for c.args.bytes (shape_in c.grow.new.self (part_at c.grow.new.self c.grow.new.memory)) ≡ Some hole →
    TakesSmall c.grow.new.self c.take_small.new.self c.args.bytes hole address c.grow.new.memory c.take_small.new.memory c.grow.new.map c.grow.new.map))
    c.unwrap.ensures (c.take_small.ensures.taken hole) (new_best c.args.self.now c.grow.new.self c.args.bytes c.args.memory.now c.grow.new.memory c.args.map.now c.grow.new.map c.requires.sound c.requires.none c.grow.ensures.keeps.payer c.in_ok-grow.ensures.grows))
