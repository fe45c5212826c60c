-- The payer's use covers the dataspace, and only its part loses it.
use Rattle.std.proofs.Common.{ap, ◌∙◌, arith}
use Rattle.own_model.proofs.NatMapLemmas.{value_at}
use Rattle.dataspace_core.specs.Store.{Store, without_space}
use Rattle.dataspace_core.proofs.PartLemmas.{becomes-without_space}
use Rattle.dataspace_core.proofs.MemoryLemmas.{key_there, is_found, payer_open, ram_covered, caps_covered, none_behind, none_within, leaves-free}
use Rattle.dataspace_core.proofs.memory.Memory.free.Goals as goal

pub remove-space-requires : goal.remove-space-requires
remove-space-requires c = key_there c.self.invariant c.args.ds.0 c.self.view_is c.requires

pub give_run-requires : goal.give_run-requires
give_run-requires c = (is_found c.self.invariant c.args.ds.0 c.remove-space.result c.remove-space.ensures.value c.self.view_is).run

pub close_gap-requires : goal.close_gap-requires
close_gap-requires c =
    omega (arith, (is_found c.self.invariant c.args.ds.0 c.remove-space.result c.remove-space.ensures.value c.self.view_is).run.within, c.self.inside.table.ok)

pub move_down-requires-clause-none : goal.move_down-requires-clause-none
move_down-requires-clause-none c = λ last.
    none_behind c.self.invariant c.args.ds.0 c.remove-space.result c.remove-space.ensures.value c.remove-space.ensures.updates c.close_gap.ensures.closed (omega (arith, last, c.close_gap.new.table.ok))

pub move_down-requires-clause-within : goal.move_down-requires-clause-within
move_down-requires-clause-within c = none_within c.self.invariant c.args.ds.0 c.remove-space.result c.remove-space.ensures.value c.remove-space.ensures.updates

pub move_down-requires-clause-small : goal.move_down-requires-clause-small
move_down-requires-clause-small c =
    let run = (is_found c.self.invariant c.args.ds.0 c.remove-space.result c.remove-space.ensures.value c.self.view_is).run.within in
    let entries = c.self.invariant.counted in
    let few = c.self.invariant.paid.few in
    omega arith

pub size_of-requires : goal.size_of-requires
size_of-requires c = (is_found c.self.invariant c.args.ds.0 c.remove-space.result c.remove-space.ensures.value c.self.view_is).small

pub credit-requires : goal.credit-requires
credit-requires c =
    let covered = ram_covered c.self.invariant c.args.ds.0 c.remove-space.result c.remove-space.ensures.value in
    record {
      «open» = payer_open c.self.invariant c.args.ds.0 c.remove-space.result c.remove-space.ensures.value;
      ram_used = omega (arith, covered, c.size_of.ensures);
      caps_used = caps_covered c.self.invariant c.args.ds.0 c.remove-space.result c.remove-space.ensures.value;
    }

pub invariant_of-self : goal.invariant_of-self
invariant_of-self c =
    (leaves-free c.self.invariant c.args.ds.0 c.remove-space.result c.remove-space.ensures.value
    c.size_of.ensures c.credit.ensures c.give_run.ensures c.close_gap.ensures.closed c.remove-space.ensures.updates c.move_down.ensures.moved
    (c.move_down.ensures.capacity ∙ c.remove-space.ensures.capacity) c.close_gap.ensures.capacity).sound

pub returns-clause-freed : goal.returns-clause-freed
returns-clause-freed c =
    (leaves-free c.self.invariant c.args.ds.0 c.remove-space.result c.remove-space.ensures.value
    c.size_of.ensures c.credit.ensures c.give_run.ensures c.close_gap.ensures.closed c.remove-space.ensures.updates c.move_down.ensures.moved
    (c.move_down.ensures.capacity ∙ c.remove-space.ensures.capacity) c.close_gap.ensures.capacity).is
    ∙ ap (λ (s : Store). without_space s c.args.ds.0) c.self.view_is

pub returns-clause-part : goal.returns-clause-part
returns-clause-part c =
    let space = value_at c.args.self.now.spaces c.args.ds.0 c.requires in
    rw (returns-clause-freed c) (becomes-without_space c.args.self.now c.args.ds.0 space.0 space.1)
