-- The paths of both options.
use Rattle.list_reach.specs.Paths.{joined, numbers_of_all}
use Rattle.list_reach.specs.declared.component_numbers.ComponentKind.TheVariants.{Script as Scripts, Server as Servers}
use Rattle.cli_lists.proofs.PathLemmas.{all_named, none_named}
use Rattle.cli_lists.proofs.reach_command.filter_of.Goals as goal

pub returns-in-Ok-clause-named : goal.returns-in-Ok-clause-named
returns-in-Ok-clause-named c =
    let asked = c.args.asked.now in
    all_named (numbers_of_all c.args.list.now Scripts asked.from.items) (numbers_of_all c.args.list.now Servers asked.to.items)
    c.in-Ok.filter.from.items c.in-Ok.filter.to.items
    (rw c.as_slice-from.ensures.value at c.in-Ok.ensures.from) (rw c.as_slice-to.ensures.value at c.in-Ok.ensures.to)

pub returns-in-Err-clause-failed : goal.returns-in-Err-clause-failed
returns-in-Err-clause-failed c =
    let asked = c.args.asked.now in
    none_named
    (joined (numbers_of_all c.args.list.now Scripts asked.from.items) (numbers_of_all c.args.list.now Servers asked.to.items))
    c.in-Err.fault c.unnamed_status.result (rw (c.as_slice-from.ensures.value, c.as_slice-to.ensures.value) at c.in-Err.ensures.fault)
    c.unnamed_status.ensures
