-- No dataspace is larger than the machine.
use Rattle.std.proofs.Common.{ap, ◌∙◌, ◌/◌, length, arith}
use Rattle.std.specs.FinMap.{get}
use Rattle.own_model.proofs.NatMapLemmas.{value_at}
use Rattle.dataspace_core.specs.Store.{Store, Space, ram_limits_in}
use Rattle.dataspace_core.proofs.MemoryLemmas.{key_there, is_found}
use Rattle.dataspace_core.proofs.PaidLemmas.{size_fits}
use Rattle.dataspace_core.proofs.PartLemmas.{space_at-some}
use Rattle.dataspace_core.proofs.memory.Memory.pages.Goals as goal

pub space_under-requires : goal.space_under-requires
space_under-requires c = key_there c.self.invariant c.args.ds.0 c.self.view_is c.requires

pub size_of-requires : goal.size_of-requires
size_of-requires c = (is_found c.self.invariant c.args.ds.0 c.space_under.result c.space_under.ensures c.self.view_is).small

pub returns-clause-pages : goal.returns-clause-pages
returns-clause-pages c =
    ap (λ n. n / 4096) (c.size_of.ensures ∙ (is_found c.self.invariant c.args.ds.0 c.space_under.result c.space_under.ensures c.self.view_is).size)

pub returns-clause-few : goal.returns-clause-few
returns-clause-few c =
    let paid = c.self.invariant.paid in
    let size = (is_found c.self.invariant c.args.ds.0 c.space_under.result c.space_under.ensures c.self.view_is).size in
    let there = value_at c.args.self.now.spaces c.args.ds.0 c.requires in
    let is = ap (λ (s : Space). length s.bytes) (space_at-some c.args.self.now c.args.ds.0 there.0 there.1) in
    let fits = size_fits _ _ _ paid c.args.ds.0 there.0 (ap (λ (s : Store). get s.spaces c.args.ds.0) c.self.view_is ∙ there.1) in
    omega (arith, c.size_of.ensures, size, is, fits, paid.ram_limits, ap ram_limits_in c.self.view_is)
