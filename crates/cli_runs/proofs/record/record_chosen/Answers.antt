-- The machine is that of the list that is chosen.
use Rattle.std.proofs.Common.{ℕ, List, subst, sym}
use Rattle.line_rounds.specs.Unfolding.{UnfoldedText}
use Rattle.cli_base.specs.Files.{IsTextAt}
use Rattle.cli_base.specs.declared.machine.Machine.{Machine}
use Rattle.cli_base.specs.declared.settings.Settings.{Settings}
use Rattle.cli_base.proofs.UnfoldingLemmas.{machine_for, on_lack, on_no_machine, on_text}
use Rattle.cli_runs.proofs.CommandLemmas.{list_unread}
use Rattle.cli_runs.specs.CommandStatus.{EndsRecorded, LacksQuota}
use Rattle.cli_runs.proofs.record.record_chosen.Goals as goal

abbrev Ends : Settings → Machine → List ℕ → UnfoldedText → ℕ → Type 0
Ends settings machine text lines ended = EndsRecorded settings machine lines ended

pub returns-in-Err : goal.returns-in-Err
returns-in-Err g c =
    on_lack (g.H.Host.text_at c.args.host.now) c.args.settings c.args.asked.now.machine c.args.asked.now.scenario.now LacksQuota
    (Ends c.args.settings) c.in-Err.status c.in-Err.ensures.failed

pub returns-in-Err-read : goal.returns-in-Err-read
returns-in-Err-read g c =
    let texts = g.H.Host.text_at c.args.host.now in
    on_no_machine texts c.args.settings c.args.asked.now.machine c.args.asked.now.scenario.now LacksQuota
    (Ends c.args.settings) c.in-Err-read.status
    (list_unread texts c.args.settings c.args.asked.now.machine c.args.asked.now.scenario.now c.in-Ok.list c.path.result
    c.in-Err-read.status c.in-Ok.ensures.chosen c.path.ensures c.in-Err-read.ensures.failed)

pub returns-in-Ok-scenario_text : goal.returns-in-Ok-scenario_text
returns-in-Ok-scenario_text g c =
    let texts = g.H.Host.text_at c.args.host.now in
    on_text texts c.args.settings c.args.asked.now.machine c.args.asked.now.scenario.now LacksQuota
    (Ends c.args.settings) c.in-Ok-read.machine c.as_slice.result.now c.record_on.result
    (machine_for texts c.args.settings c.args.asked.now.machine c.args.asked.now.scenario.now c.in-Ok.list c.path.result c.in-Ok-read.machine
    c.in-Ok.ensures.chosen c.path.ensures c.in-Ok-read.ensures.found)
    (subst (λ t. IsTextAt texts c.args.asked.now.scenario.now t) (sym c.as_slice.ensures.value) c.in-Ok-scenario_text.ensures.text)
    c.record_on.ensures
