-- The machine is that of the list that is chosen.
use Rattle.std.proofs.Common.{subst, sym}
use Rattle.std.proofs.Math.Logic.{⊎_map}
use Rattle.cli_base.proofs.UnfoldingLemmas.{lacks_machine, machine_for, on_lack, on_no_machine, on_text}
use Rattle.cli_base.specs.Files.{IsTextAt}
use Rattle.cli_budgets.specs.BudgetStatus.{EndsMeasured, LacksReport}
use Rattle.cli_budgets.proofs.least_command.print_minimum_budgets.Goals as goal

pub returns-in-Err : goal.returns-in-Err
returns-in-Err g c =
    on_lack (g.H.Host.text_at c.args.host.now) c.args.settings c.args.asked.now.machine c.args.asked.now.scenario.now LacksReport (EndsMeasured c.args.asked.now c.args.settings)
    c.in-Err.status c.in-Err.ensures.failed

pub returns-in-Err-read : goal.returns-in-Err-read
returns-in-Err-read g c =
    let texts = g.H.Host.text_at c.args.host.now in
    let named = c.args.asked.now.machine in
    let scenario = c.args.asked.now.scenario.now in
    on_no_machine texts c.args.settings named scenario LacksReport (EndsMeasured c.args.asked.now c.args.settings) c.in-Err-read.status
    (⊎_map (λ one. one)
    (λ two. (two.0, lacks_machine texts c.args.settings named scenario c.in-Ok.list c.path.result c.in-Ok.ensures.chosen c.path.ensures two.1))
    c.in-Err-read.ensures.failed)

pub returns-in-Ok-scenario_text : goal.returns-in-Ok-scenario_text
returns-in-Ok-scenario_text g c =
    let texts = g.H.Host.text_at c.args.host.now in
    let named = c.args.asked.now.machine in
    let scenario = c.args.asked.now.scenario.now in
    on_text texts c.args.settings named scenario LacksReport (EndsMeasured c.args.asked.now c.args.settings) c.in-Ok-read.machine c.as_slice.result.now c.least_on.result
    (machine_for texts c.args.settings named scenario c.in-Ok.list c.path.result c.in-Ok-read.machine c.in-Ok.ensures.chosen c.path.ensures
    c.in-Ok-read.ensures.found)
    (subst (λ t. IsTextAt texts scenario t) (sym c.as_slice.ensures.value) c.in-Ok-scenario_text.ensures.text) c.least_on.ensures
