-- What the account covers has pages and a place, and only the payer's part has the new dataspace.
use Rattle.std.proofs.Common.{refl, sym, ap, ◌∙◌, arith}
use Rattle.std.specs.FinMap.{get}
use Rattle.dataspace_core.specs.Store.{Store, with_space}
use Rattle.dataspace_core.proofs.PartLemmas.{becomes-with_space}
use Rattle.dataspace_core.proofs.MemoryLemmas.{pages_free, entries_free, place_free, vacant_there, leaves-alloc}
use Rattle.dataspace_core.proofs.CapsLemmas.{spaces_paid}
use Rattle.dataspace_core.proofs.memory.Memory.alloc.Goals as goal

pub take_run-run-requires-clause-free : goal.take_run-run-requires-clause-free
take_run-run-requires-clause-free c =
    pages_free c.self.invariant c.args.account.0 c.args.bytes c.in_ok-size.size
    (rw c.in_ok-size.ensures.ok_part at c.valid_size.ensures.rounded) (rw c.in_ok-size.ensures.ok_part at c.valid_size.ensures.some)
    (rw (← c.self.view_is) at c.requires) c.in_ok-charge.ensures.refusal

pub take_run-run-requires-clause-room : goal.take_run-run-requires-clause-room
take_run-run-requires-clause-room c =
    omega (
      arith,
      c.self.inside.table.ok,
      entries_free c.self.invariant c.args.account.0 c.args.bytes c.in_ok-size.size
          (rw c.in_ok-size.ensures.ok_part at c.valid_size.ensures.rounded) (rw c.in_ok-size.ensures.ok_part at c.valid_size.ensures.some)
          (rw (← c.self.view_is) at c.requires) c.in_ok-charge.ensures.refusal,
    )

pub insert_reserved-key-requires-clause-room : goal.insert_reserved-key-requires-clause-room
insert_reserved-key-requires-clause-room c =
    place_free c.self.invariant c.args.account.0 c.args.bytes c.in_ok-size.size
    (rw c.in_ok-size.ensures.ok_part at c.valid_size.ensures.rounded) (rw c.in_ok-size.ensures.ok_part at c.valid_size.ensures.some)
    (rw (← c.self.view_is) at c.requires) c.in_ok-charge.ensures.refusal

pub insert_reserved-key-requires-clause-small : goal.insert_reserved-key-requires-clause-small
insert_reserved-key-requires-clause-small c =
    let start = c.take_run-run.ensures.run.at_end in
    let entries = c.self.invariant.counted in
    let few = c.self.invariant.paid.few in
    omega arith

pub invariant_of-self-2 : goal.invariant_of-self-2
invariant_of-self-2 c =
    (leaves-alloc c.self.invariant c.args.account.0 c.args.bytes c.in_ok-size.size
    (rw c.in_ok-size.ensures.ok_part at c.valid_size.ensures.rounded) (rw c.in_ok-size.ensures.ok_part at c.valid_size.ensures.some)
    (rw (← c.self.view_is) at c.requires) c.in_ok-charge.ensures.refusal
    c.insert_reserved-key.ensures.updates c.in_ok-charge.ensures.ok refl c.take_run-run.ensures.count c.take_run-run.ensures.run
    c.insert_reserved-key.ensures.was_vacant c.insert_reserved-key.ensures.capacity c.take_run-run.ensures.capacity).sound

pub returns-clause-ok : goal.returns-clause-ok
returns-clause-ok c =
    (leaves-alloc c.self.invariant c.args.account.0 c.args.bytes c.in_ok-size.size
    (rw c.in_ok-size.ensures.ok_part at c.valid_size.ensures.rounded) (rw c.in_ok-size.ensures.ok_part at c.valid_size.ensures.some)
    (rw (← c.self.view_is) at c.requires) c.in_ok-charge.ensures.refusal
    c.insert_reserved-key.ensures.updates c.in_ok-charge.ensures.ok refl c.take_run-run.ensures.count c.take_run-run.ensures.run
    c.insert_reserved-key.ensures.was_vacant c.insert_reserved-key.ensures.capacity c.take_run-run.ensures.capacity).is
    ∙ ap (λ (s : Store). with_space s c.insert_reserved-key.result c.args.account.0 c.args.bytes) c.self.view_is

pub returns-clause-fresh : goal.returns-clause-fresh
returns-clause-fresh c =
    ap (λ (s : Store). get s.spaces c.insert_reserved-key.result) (sym c.self.view_is)
    ∙ vacant_there c.self.invariant c.args.account.0 c.args.bytes c.in_ok-size.size
    (rw c.in_ok-size.ensures.ok_part at c.valid_size.ensures.rounded) (rw c.in_ok-size.ensures.ok_part at c.valid_size.ensures.some)
    (rw (← c.self.view_is) at c.requires) c.in_ok-charge.ensures.refusal
    c.insert_reserved-key.ensures.updates c.in_ok-charge.ensures.ok refl c.take_run-run.ensures.count c.take_run-run.ensures.run
    c.insert_reserved-key.ensures.was_vacant c.insert_reserved-key.ensures.capacity c.take_run-run.ensures.capacity

pub returns-clause-part : goal.returns-clause-part
returns-clause-part c =
    rw (returns-clause-ok c) (becomes-with_space c.args.self.now c.insert_reserved-key.result c.args.account.0 c.args.bytes (returns-clause-fresh c))

pub returns-clause-paid : goal.returns-clause-paid
returns-clause-paid c = spaces_paid (invariant_of-self-2 c) c.args.account.0

pub returns-clause-key : goal.returns-clause-key
returns-clause-key c =
    let range = c.insert_reserved-key.ensures.key_in_range in
    let same = c.insert_reserved-key.ensures.capacity in
    let capacity = c.capacity-capacity.ensures.value in
    omega (arith, range, same, capacity)

pub returns-clause-within : goal.returns-clause-within
returns-clause-within c =
    let paid = (invariant_of-self-2 c).paid in
    let backed = paid.backed in
    let limits = paid.ram_limits in
    omega (arith, backed, limits)
